-- A script so far: what was read, answered and written.
use Rattle.urb_script.proofs.Common.{Answers, BadLine, Command, Group, IfSome, IsBad, IsOneLine}
use Rattle.urb_script.proofs.Common.{IsSomeAnd, Limits, List, None, Option, ReadsLine, Scene, Some}
use Rattle.urb_script.proofs.Common.{Spells, Takes, TookPart, [], ap, append-nil, append_assoc}
use Rattle.urb_script.proofs.Common.{arith, bad_line, false, inl, inr, is_some, length}
use Rattle.urb_script.proofs.Common.{length-append, lines_of, refl, subst, sym, true, ℕ, ◌++◌, ◌+◌}
use Rattle.urb_script.proofs.Common.{◌∙◌, ◌∷◌, ◌≡◌, ◌⊎◌}
use Rattle.std.specs.Io.KnownBytes.{Appends}
use Rattle.std.proofs.KnownBytes.{Appends-nil, Appends-trans}
use Rattle.urb_script.specs.declared.runs.RunEnd.TheVariants.{Whole}
use Rattle.urb_script.specs.declared.runs.RunFault.{RunFault}
use Rattle.urb_script.specs.Scripts.{BreaksOff, BrokenOff, StopsAfter, WholeScript}
use Rattle.urb_script.specs.internal.LineAnswers.{Answered, AnsweredFrom, OpensWith, ShowsSome}
use Rattle.urb_script.specs.internal.LineAnswers.{TakesFrom}
use Rattle.urb_script.specs.declared.input.LineRead.TheVariants as read
use Rattle.urb_script.specs.declared.runs.RunFault.TheVariants as faults

record Progress (input : List ℕ) (before after known : Option (List ℕ)) (count : ℕ)
    (state : Option Scene) : Type 0 where
  done : List (List ℕ)
  rest : List ℕ
  pub said : List ℕ
  pub at : known ≡ Some rest
  pub lines : lines_of input ≡ done ++ lines_of rest
  pub answers : Answers Takes None done said state
  pub written : Appends before after said
  pub counted : length done ≡ count

none_some : {rest : List ℕ} → None ≡ Some rest → ⊥
none_some e = cc

some_same : {bytes rest : List ℕ} → Some bytes ≡ Some rest → rest ≡ bytes
some_same e = cc

nothing_here : (known before : Option (List ℕ))
    → IfSome known (λ input. Progress input before before known 0 None)
nothing_here None before = tt
nothing_here (Some input) before =
    record {
      done = [];
      rest = input;
      said = [];
      at = refl;
      lines = refl;
      answers =
          (refl, refl);
      written = Appends-nil before;
      counted = refl;
    }

Answers_more : (old mid : Option Scene) (new : Scene) (lines : List (List ℕ))
    (output line text : List ℕ) (asked : Command) → Answers Takes old lines output mid
    → Spells line asked → Takes mid asked text new
    → Answers Takes old (lines ++ line ∷ []) (output ++ (text ++ 10 ∷ [])) (Some new)
Answers_more old mid new [] output line text asked a s t = (
  asked,
  text,
  new,
  [],
  s,
  subst (λ from. Takes from asked text new) a.1 t,
  ap (λ out. out ++ (text ++ 10 ∷ [])) a.0,
  (refl, refl),
)
Answers_more old mid new (first ∷ lines) output line text asked a s t = (
  a.0,
  a.1,
  a.2,
  a.3 ++ (text ++ 10 ∷ []),
  a.4,
  a.5,
  ap (λ out. out ++ (text ++ 10 ∷ [])) a.6 ∙ append_assoc a.1 (10 ∷ a.3) (text ++ 10 ∷ []),
  Answers_more (Some a.2) mid new lines a.3 line text asked a.7 s t,
)

more : (input : List ℕ) (before after later left : Option (List ℕ)) (bytes : List ℕ) (count : ℕ)
    (state : Option Scene) (new : Scene) (line text : List ℕ)
    → Progress input before after (Some bytes) count state
    → ReadsLine (Some bytes) left line read.Whole → Answered state line text (Some new)
    → Appends after later (text ++ 10 ∷ [])
    → Progress input before later left (count + 1) (Some new)
more input before after later left bytes count state new line text p r a w = record {
  done = p.done ++ line ∷ [];
  rest = r.0;
  said = p.said ++ (text ++ 10 ∷ []);
  at = r.1;
  lines =
      p.lines ∙ ap (λ rest. p.done ++ lines_of rest) (some_same p.at)
      ∙ ap (λ lines. p.done ++ lines) r.2 ∙ sym (append_assoc p.done (line ∷ []) (lines_of r.0));
  answers = Answers_more None state new p.done p.said line text a.0 p.answers a.1 a.2;
  written = Appends-trans _ _ _ _ _ p.written w;
  counted = length-append p.done (line ∷ []) ∙ ap (λ n. n + 1) p.counted;
}

-- one more line is answered
one_here : (from before after later known left : Option (List ℕ)) (count : ℕ) (state : Option Scene)
    (new : Scene) (line text : List ℕ)
    → IfSome from (λ input. Progress input before after known count state)
    → ReadsLine known left line read.Whole → Answered state line text (Some new)
    → Appends after later (text ++ 10 ∷ [])
    → IfSome from (λ input. Progress input before later left (count + 1) (Some new))
one_here None before after later known left count state new line text p r a w = tt
one_here (Some input) before after later None left count state new line text p r a w =
    absurd (none_some p.at)
one_here (Some input) before after later (Some bytes) left count state new line text p r a w =
    more input before after later left bytes count state new line text p r a w

-- what the reader still has
left_is : (P : List ℕ → Type 0) (left : Option (List ℕ)) (rest : List ℕ) → left ≡ Some rest → P rest
    → IsSomeAnd left P
left_is P left rest e p = subst (λ (o : Option (List ℕ)). IsSomeAnd o P) (sym e) p

tail_nil : (front back : List ℕ) → front ++ back ≡ [] → back ≡ []
tail_nil [] back e = e
tail_nil (byte ∷ bytes) back e = absurd (cc)

-- the input ends after a line
closes : (from before after known left : Option (List ℕ)) (count : ℕ) (scene : Scene)
    (line : List ℕ)
    → IfSome from (λ input. Progress input before after known count (Some scene))
    → ReadsLine known left line read.End → TookPart IsOneLine known left
    → IfSome from (λ input. IsSomeAnd left
    (λ unread. WholeScript Takes input Whole unread before after))
closes None before after known left count scene line p r t = tt
closes (Some input) before after None left count scene line p r t = absurd (none_some p.at)
closes (Some input) before after (Some bytes) left count scene line p r t =
    left_is (λ unread. WholeScript Takes input Whole unread before after) left t.1 t.3 (record {
      done = p.done;
      left = [];
      said = p.said;
      last = [];
      state = Some scene;
      lines = p.lines ∙ ap (λ rest. p.done ++ lines_of rest) (some_same p.at ∙ r);
      answers = p.answers;
      ends = (refl, refl, (scene, refl));
      leaves = tail_nil t.0 t.1 (sym t.2 ∙ r);
      written = rw append-nil p.written;
    })

bad : (input : List ℕ) (before after later left : Option (List ℕ)) (bytes : List ℕ) (count : ℕ)
    (state : Option Scene)
    → Progress input before after (Some bytes) count state → IsBad state (lines_of bytes)
    → TookPart IsOneLine (Some bytes) left → Appends after later (bad_line (count + 1))
    → IsSomeAnd left (λ unread. WholeScript Takes input (BadLine (count + 1)) unread before later)
bad input before after later left bytes count state p b t w =
    left_is (λ unread. WholeScript Takes input (BadLine (count + 1)) unread before later)
    left t.1 t.3 (record {
      done = p.done;
      left = lines_of bytes;
      said = p.said;
      last = bad_line (count + 1);
      state = state;
      lines = p.lines ∙ ap (λ rest. p.done ++ lines_of rest) (some_same p.at);
      answers = p.answers;
      ends = (b, ap (λ n. n + 1) (sym p.counted), refl);
      leaves = (t.0, t.4, ap lines_of t.2);
      written = Appends-trans _ _ _ _ _ p.written w;
    })

-- nothing comes at all
bad_end : (from before after later known left : Option (List ℕ)) (count : ℕ) (line : List ℕ)
    → IfSome from (λ input. Progress input before after known count None)
    → ReadsLine known left line read.End → TookPart IsOneLine known left
    → Appends after later (bad_line (count + 1))
    → IfSome from (λ input. IsSomeAnd left
    (λ unread. WholeScript Takes input (BadLine (count + 1)) unread before later))
bad_end None before after later known left count line p r t w = tt
bad_end (Some input) before after later None left count line p r t w = absurd (none_some p.at)
bad_end (Some input) before after later (Some bytes) left count line p r t w =
    bad input before after later left bytes count None p
    (subst (λ bytes. IsBad None (lines_of bytes)) (sym r) tt) t w

-- a line is too long
long_here : (from before after later known left : Option (List ℕ)) (count : ℕ)
    (state : Option Scene) (line : List ℕ)
    → IfSome from (λ input. Progress input before after known count state)
    → ReadsLine known left line read.Long → TookPart IsOneLine known left
    → Appends after later (bad_line (count + 1))
    → IfSome from (λ input. IsSomeAnd left
    (λ unread. WholeScript Takes input (BadLine (count + 1)) unread before later))
long_here None before after later known left count state line p r t w = tt
long_here (Some input) before after later None left count state line p r t w =
    absurd (none_some p.at)
long_here (Some input) before after later (Some bytes) left count state line p r t w =
    bad input before after later left bytes count state p
    (subst (IsBad state) (sym r.2) (λ asked may s. omega (arith, s.short, r.3))) t w

-- a line is no command
none_here : (from before after later known left : Option (List ℕ)) (count : ℕ)
    (state : Option Scene) (line text : List ℕ)
    → IfSome from (λ input. Progress input before after known count state)
    → ReadsLine known left line read.Whole → TookPart IsOneLine known left
    → Answered state line text None → Appends after later (bad_line (count + 1))
    → IfSome from (λ input. IsSomeAnd left
    (λ unread. WholeScript Takes input (BadLine (count + 1)) unread before later))
none_here None before after later known left count state line text p r t a w = tt
none_here (Some input) before after later None left count state line text p r t a w =
    absurd (none_some p.at)
none_here (Some input) before after later (Some bytes) left count state line text p r t a w =
    bad input before after later left bytes count state p (subst (IsBad state) (sym r.2) a) t w

stops_here : (P : List ℕ → Type 0) (input : List ℕ) (before after : Option (List ℕ))
    (bytes part rest : List ℕ) (count : ℕ) (state : Option Scene)
    → (p : Progress input before after (Some bytes) count state) → bytes ≡ part ++ rest → P part
    → StopsAfter P input rest p.said
stops_here P input before after bytes part rest count state p parts reads = record {
  done = p.done;
  part = part;
  state = state;
  lines = p.lines ∙ ap (λ rest. p.done ++ lines_of rest) (some_same p.at ∙ parts);
  reads = reads;
  answers = p.answers;
}

-- memory or the reader fails, after a part was read
off_here : (P : List ℕ → Type 0) (from before after known left : Option (List ℕ)) (count : ℕ)
    (state : Option Scene)
    → IfSome from (λ input. Progress input before after known count state) → TookPart P known left
    → IfSome from (λ input. IsSomeAnd left (λ unread. BrokenOff P input unread before after))
off_here P None before after known left count state p t = tt
off_here P (Some input) before after None left count state p t = absurd (none_some p.at)
off_here P (Some input) before after (Some bytes) left count state p t =
    left_is (λ unread. BrokenOff P input unread before after) left t.1 t.3
    (p.said, stops_here P input before after bytes t.0 t.1 count state p t.2 t.4, p.written)

-- the writer fails, after a part was read
cut_here : (from before after later known left : Option (List ℕ)) (count : ℕ) (state : Option Scene)
    → IfSome from (λ input. Progress input before after known count state)
    → TookPart IsOneLine known left
    → IfSome from (λ input. IsSomeAnd left
    (λ unread. BreaksOff faults.Write input unread before later))
cut_here None before after later known left count state p t = tt
cut_here (Some input) before after later None left count state p t = absurd (none_some p.at)
cut_here (Some input) before after later (Some bytes) left count state p t =
    left_is (λ unread. BreaksOff faults.Write input unread before later) left t.1 t.3
    (p.said, stops_here IsOneLine input before after bytes t.0 t.1 count state p t.2 t.4)

-- nothing was read after the lines that are answered
between_here : (P : List ℕ → Type 0) (from before after known : Option (List ℕ)) (count : ℕ)
    (state : Option Scene)
    → IfSome from (λ input. Progress input before after known count state) → P []
    → IfSome from (λ input. IsSomeAnd known (λ unread. BrokenOff P input unread before after))
between_here P None before after known count state p none = tt
between_here P (Some input) before after None count state p none = absurd (none_some p.at)
between_here P (Some input) before after (Some bytes) count state p none =
    off_here P (Some input) before after (Some bytes) (Some bytes) count state p
    ([], bytes, refl, refl, none)

-- ---- the same, by the state of a run

-- a script so far, in a scene that the state of the run shows
pub record Going {S : Type 0} (shows : S → Scene → Type 0) (input : List ℕ)
    (before after known : Option (List ℕ)) (count : ℕ) (held : Option S) : Type 0 where
  scene : Option Scene
  shown : ShowsSome shows held scene
  progress : Progress input before after known count scene

-- if bytes are known, what holds for a script so far
each : (known : Option (List ℕ)) (P Q : List ℕ → Type 0) → ((input : List ℕ) → P input → Q input)
    → IfSome known P → IfSome known Q
each None P Q f p = tt
each (Some input) P Q f p = f input p

-- before the first line, nothing is answered and nothing is written
pub nothing_yet : {S : Type 0} (shows : S → Scene → Type 0) (known before : Option (List ℕ))
    → IfSome known (λ input. Going shows input before before known 0 None)
nothing_yet shows known before =
    each known (λ input. Progress input before before known 0 None)
    (λ input. Going shows input before before known 0 None)
    (λ input p. record { scene = None; shown = tt; progress = p }) (nothing_here known before)

someone : {S : Type 0} (shows : S → Scene → Type 0) (state : S) (after : Option Scene)
    → ShowsSome shows (Some state) after
    → (scene : Scene) × (after ≡ Some scene) × shows state scene
someone shows state None s = absurd s
someone shows state (Some scene) s = (scene, refl, s)

no_one : {S : Type 0} (shows : S → Scene → Type 0) (after : Option Scene)
    → ShowsSome shows None after → after ≡ None
no_one shows None s = refl
no_one shows (Some scene) s = absurd s

-- one more line is answered
pub one_more : {S : Type 0} (shows : S → Scene → Type 0) (held : Option S) (state : S)
    (from before after later known left : Option (List ℕ)) (count : ℕ) (line text : List ℕ)
    → IfSome from (λ input. Going shows input before after known count held)
    → ReadsLine known left line read.Whole → AnsweredFrom shows held line text (Some state)
    → Appends after later (text ++ 10 ∷ [])
    → IfSome from (λ input. Going shows input before later left (count + 1) (Some state))
one_more shows held state None before after later known left count line text g r a w = tt
one_more shows held state (Some input) before after later known left count line text g r a w =
    let next = a g.scene g.shown in
    let one = someone shows state next.0 next.1 in
    record {
      scene = Some one.0;
      shown = one.2;
      progress =
          one_here (Some input) before after later known left count g.scene one.0 line text
          g.progress r (subst (Answered g.scene line text) one.1 next.2) w;
    }

-- the input ends after a line
pub closes_at : {S : Type 0} (shows : S → Scene → Type 0) (held : Option S)
    (from before after known left : Option (List ℕ)) (count : ℕ) (line : List ℕ)
    → is_some held ≡ true
    → IfSome from (λ input. Going shows input before after known count held)
    → ReadsLine known left line read.End → TookPart IsOneLine known left
    → IfSome from (λ input. IsSomeAnd left
    (λ unread. WholeScript Takes input Whole unread before after))
closes_at shows held None before after known left count line s g r t = tt
closes_at shows None (Some input) before after known left count line s g r t = absurd (cc)
closes_at shows (Some state) (Some input) before after known left count line s g r t =
    let one = someone shows state g.scene g.shown in
    closes (Some input) before after known left count one.0 line
    (subst (Progress input before after known count) one.1 g.progress) r t

-- nothing comes at all
pub bad_end_at : {S : Type 0} (shows : S → Scene → Type 0) (held : Option S)
    (from before after later known left : Option (List ℕ)) (count : ℕ) (line : List ℕ)
    → is_some held ≡ false
    → IfSome from (λ input. Going shows input before after known count held)
    → ReadsLine known left line read.End → TookPart IsOneLine known left
    → Appends after later (bad_line (count + 1))
    → IfSome from (λ input. IsSomeAnd left
    (λ unread. WholeScript Takes input (BadLine (count + 1)) unread before later))
bad_end_at shows held None before after later known left count line s g r t w = tt
bad_end_at shows None (Some input) before after later known left count line s g r t w =
    bad_end (Some input) before after later known left count line
    (subst (Progress input before after known count) (no_one shows g.scene g.shown) g.progress)
    r t w
bad_end_at shows (Some state) (Some input) before after later known left count line s g r t w =
    absurd (cc)

-- a line is too long
pub bad_long : {S : Type 0} (shows : S → Scene → Type 0) (held : Option S)
    (from before after later known left : Option (List ℕ)) (count : ℕ) (line : List ℕ)
    → IfSome from (λ input. Going shows input before after known count held)
    → ReadsLine known left line read.Long → TookPart IsOneLine known left
    → Appends after later (bad_line (count + 1))
    → IfSome from (λ input. IsSomeAnd left
    (λ unread. WholeScript Takes input (BadLine (count + 1)) unread before later))
bad_long shows held None before after later known left count line g r t w = tt
bad_long shows held (Some input) before after later known left count line g r t w =
    long_here (Some input) before after later known left count g.scene line g.progress r t w

-- a line is no command
pub bad_command : {S : Type 0} (shows : S → Scene → Type 0) (held : Option S)
    (from before after later known left : Option (List ℕ)) (count : ℕ) (line text : List ℕ)
    → IfSome from (λ input. Going shows input before after known count held)
    → ReadsLine known left line read.Whole → TookPart IsOneLine known left
    → AnsweredFrom shows held line text None → Appends after later (bad_line (count + 1))
    → IfSome from (λ input. IsSomeAnd left
    (λ unread. WholeScript Takes input (BadLine (count + 1)) unread before later))
bad_command shows held None before after later known left count line text g r t a w = tt
bad_command shows held (Some input) before after later known left count line text g r t a w =
    let next = a g.scene g.shown in
    none_here (Some input) before after later known left count g.scene line text g.progress r t
    (subst (Answered g.scene line text) (no_one shows next.0 next.1) next.2) w

-- memory or the reader fails, after a part was read
pub breaks_off : {S : Type 0} (shows : S → Scene → Type 0) (P : List ℕ → Type 0) (held : Option S)
    (from before after known left : Option (List ℕ)) (count : ℕ)
    → IfSome from (λ input. Going shows input before after known count held) → TookPart P known left
    → IfSome from (λ input. IsSomeAnd left (λ unread. BrokenOff P input unread before after))
breaks_off shows P held None before after known left count g t = tt
breaks_off shows P held (Some input) before after known left count g t =
    off_here P (Some input) before after known left count g.scene g.progress t

-- the writer fails, after a part was read
pub cuts_off : {S : Type 0} (shows : S → Scene → Type 0) (held : Option S)
    (from before after later known left : Option (List ℕ)) (count : ℕ)
    → IfSome from (λ input. Going shows input before after known count held)
    → TookPart IsOneLine known left
    → IfSome from (λ input. IsSomeAnd left
    (λ unread. BreaksOff faults.Write input unread before later))
cuts_off shows held None before after later known left count g t = tt
cuts_off shows held (Some input) before after later known left count g t =
    cut_here (Some input) before after later known left count g.scene g.progress t

-- nothing was read after the lines that are answered
pub breaks_between : {S : Type 0} (shows : S → Scene → Type 0) (P : List ℕ → Type 0)
    (held : Option S) (from before after known : Option (List ℕ)) (count : ℕ)
    → IfSome from (λ input. Going shows input before after known count held) → P []
    → IfSome from (λ input. IsSomeAnd known (λ unread. BrokenOff P input unread before after))
breaks_between shows P held None before after known count g none = tt
breaks_between shows P held (Some input) before after known count g none =
    between_here P (Some input) before after known count g.scene g.progress none

-- the answer that a line is no command can't be written
pub bad_breaks : {S : Type 0} (shows : S → Scene → Type 0) (held : Option S) (fault : RunFault)
    (from before after later known left : Option (List ℕ)) (count : ℕ)
    → IfSome from (λ input. Going shows input before after known count held)
    → TookPart IsOneLine known left
    → (fault ≡ faults.Write) ⊎ ((fault ≡ faults.NoMemory) × (later ≡ after))
    → IfSome from (λ input. IsSomeAnd left (λ unread. BreaksOff fault input unread before later))
bad_breaks shows held fault from before after later known left count g t (inl e) =
    rw e (cuts_off shows held from before after later known left count g t)
bad_breaks shows held fault from before after later known left count g t (inr e) =
    rw (e.0, e.1) (breaks_off shows IsOneLine held from before after known left count g t)

-- if a fault for memory leaves the writer as it was, it leaves the writer's bytes as they were
pub same_contents : {S : Type 0} (view : S → Option (List ℕ)) (fault : RunFault) (old new : S)
    → (fault ≡ faults.Write) ⊎ ((fault ≡ faults.NoMemory) × (new ≡ old))
    → (fault ≡ faults.Write) ⊎ ((fault ≡ faults.NoMemory) × (view new ≡ view old))
same_contents view fault old new (inl e) = inl e
same_contents view fault old new (inr e) = inr (e.0, ap view e.1)

-- ---- one line, by the state of the run

shown_as : {S : Type 0} (shows : S → Scene → Type 0) (held other : Option S) (before : Option Scene)
    → held ≡ other → ShowsSome shows held before → ShowsSome shows other before
shown_as shows held other before e s = subst (λ state. ShowsSome shows state before) e s

-- the first line makes the group
pub opens_line : {S : Type 0} (shows : S → Scene → Type 0) (held : Option S) (new : S)
    (limits : Limits) (line text : List ℕ)
    → held ≡ None → Spells line (Group limits) → OpensWith shows limits text new
    → AnsweredFrom shows held line text (Some new)
opens_line shows held new limits line text none s o before shown =
    let e = no_one shows before (shown_as shows held None before none shown) in (
      Some o.0,
      o.1,
      (
        Group limits,
        s,
        subst (λ (old : Option Scene). Takes old (Group limits) text o.0) (sym e) o.2,
      ),
    )

-- a later line is a command
pub plays_line : {S : Type 0} (shows : S → Scene → Type 0) (held : Option S) (old new : S)
    (asked : Command) (line text : List ℕ)
    → held ≡ Some old → Spells line asked → TakesFrom shows old asked text new
    → AnsweredFrom shows held line text (Some new)
plays_line shows held old new asked line text some s t before shown =
    let one = someone shows old before (shown_as shows held (Some old) before some shown) in
    let next = t one.0 one.2 in (
      Some next.0,
      next.1,
      (
        asked,
        s,
        subst (λ (from : Option Scene). Takes from asked text next.0) (sym one.1) next.2,
      ),
    )
