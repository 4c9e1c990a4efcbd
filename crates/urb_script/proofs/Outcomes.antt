-- A script has only one outcome.
use Rattle.urb_script.proofs.Common.{Answers, AreArguments, ArriveFlagged, BadLine, Command}
use Rattle.urb_script.proofs.Common.{Failure, Flags, Group, Held, InRange, IsBad, IsHexWord}
use Rattle.urb_script.proofs.Common.{IsLabel, IsNodeNumber, IsSpelled, Label, List, Log, New, None}
use Rattle.urb_script.proofs.Common.{Old, Option, Plays, Raw, Reopen, Scene, Some, Spells, []}
use Rattle.urb_script.proofs.Common.{answer, ap, append_assoc, ap₂, arith, bad_line, bytes_eq}
use Rattle.urb_script.proofs.Common.{codes, decimal, decimal_injective, get_or, keyword, length}
use Rattle.urb_script.proofs.Common.{name_text, refl, subst, suc, sym, true, words_of, ℕ, ◌++◌, ◌+◌}
use Rattle.urb_script.proofs.Common.{◌∙◌, ◌∷◌, ◌≡◌, ◌≤◌}
use Rattle.urb_names.proofs.FlagNumbers.{number_below, same_flags}
use Rattle.urb_names.specs.PacketGrammar.{flags_number}
use Rattle.urb_script.specs.ValueWords.{HasWord, failure_word, payload_word}
use Rattle.urb_script.proofs.HexWords.{same_bytes}
use Rattle.urb_script.proofs.NameWords.{name_sender, name_seq}
use Rattle.urb_script.proofs.Spellings.{test}
use Rattle.urb_script.specs.Commands.{Arrive, Crash, Fail, IsRoute, Restart, Stored, Submit, Tick}
use Rattle.urb_script.specs.Steps.{MayCome}
use Rattle.urb_script.specs.Scripts.{Ends, HasOneOutcome}
use Rattle.urb_script.specs.declared.runs.RunEnd.{RunEnd}
use Rattle.urb_script.specs.declared.runs.RunEnd.TheVariants.{Whole}

-- ---- a line spells one command

same_number : (m n : ℕ) → m ≤ 4294967295 → n ≤ 4294967295 → decimal m ≡ decimal n → m ≡ n
same_number m n l u e = decimal_injective m n (omega (arith, l)) (omega (arith, u)) e

same_payload : (payload other : List ℕ) → HasWord payload → HasWord other
    → payload_word payload ≡ payload_word other → payload ≡ other
same_payload [] [] h k e = refl
same_payload [] (byte ∷ bytes) h k e = absurd (k.1 (sym e))
same_payload (byte ∷ bytes) [] h k e = absurd (h.1 e)
same_payload (byte ∷ bytes) (first ∷ others) h k e = e

-- equal lists of words have equal words
word : (k : ℕ) {words others : List (List ℕ)} → words ≡ others
    → get_or words k [] ≡ get_or others k []
word k e = ap (λ (words : List (List ℕ)). get_or words k []) e

-- equal words are the same node
same_node : (f : ℕ → Command) (words : List (List ℕ)) (node p : ℕ) → IsNodeNumber node
    → IsNodeNumber p → words ≡ decimal node ∷ [] → words ≡ decimal p ∷ [] → f node ≡ f p
same_node f words node p r s e g =
    ap f (same_number node p (omega (arith, r.1)) (omega (arith, s.1)) (word 0 (sym e ∙ g)))

same_failure : (failure other : Failure) → failure_word failure ≡ failure_word other
    → failure ≡ other
same_failure Old Old e = refl
same_failure Old New e =
    let f = test (codes "old") (codes "old") (codes "new") refl e in absurd (cc)
same_failure New Old e =
    let f = test (codes "new") (codes "new") (codes "old") refl e in absurd (cc)
same_failure New New e = refl

same_label : (x y : Label) → IsLabel x → IsLabel y → decimal x.sender ≡ decimal y.sender
    → decimal x.seq ≡ decimal y.seq → x ≡ y
same_label x y l k e f =
    ap₂ (λ (sender seq : ℕ). record { sender = sender; seq = seq })
    (same_number x.sender y.sender (omega (arith, l.sender)) (omega (arith, k.sender)) e)
    (same_number x.seq y.seq (omega (arith, l.seq)) (omega (arith, k.seq)) f)

same_name : (x y : Label) → IsLabel x → IsLabel y → name_text x ≡ name_text y → x ≡ y
same_name x y l k e = same_label x y l k (name_sender x y l k e) (name_seq x y l k e)

-- the two nodes that a packet joins
same_route : (f : ℕ → ℕ → Command) (source node q p : ℕ) → IsRoute source node → IsRoute q p
    → decimal source ≡ decimal q → decimal node ≡ decimal p → f source node ≡ f q p
same_route f source node q p r s a b =
    ap₂ f (same_number source q (omega (arith, r.source.1)) (omega (arith, s.source.1)) a)
    (same_number node p (omega (arith, r.node.1)) (omega (arith, s.node.1)) b)

same_number_flags : (flags others : Flags)
    → decimal (flags_number flags) ≡ decimal (flags_number others) → flags ≡ others
same_number_flags flags others e =
    same_flags flags others (same_number (flags_number flags) (flags_number others)
    (omega (arith, number_below flags)) (omega (arith, number_below others)) e)

same_arguments : (asked other : Command) (words : List (List ℕ))
    → bytes_eq (keyword asked) (keyword other) ≡ true → InRange asked → InRange other
    → AreArguments asked words → AreArguments other words → asked ≡ other
same_arguments (Group limits) (Group more) words k r s a b =
    let e = sym a ∙ b in
    ap₂ (λ (n cap : ℕ). Group (record { n = n; cap = cap }))
    (same_number limits.n more.n (omega (arith, r.1)) (omega (arith, s.1)) (word 0 e))
    (same_number limits.cap more.cap (omega (arith, r.3)) (omega (arith, s.3)) (word 1 e))
same_arguments (Group limits) other words k r s a b = absurd (cc)
same_arguments (Submit node client number payload) (Submit p c n other) words k r s a b =
    let e = sym a ∙ b in
    ap₂ (λ (x y : ℕ). Submit x y number payload)
    (same_number node p (omega (arith, r.0.1)) (omega (arith, s.0.1)) (word 0 e))
    (same_number client c (omega (arith, r.2)) (omega (arith, s.2)) (word 1 e))
    ∙ ap₂ (λ (x : ℕ) (y : List ℕ). Submit p c x y) (same_number number n r.3 s.3 (word 2 e))
    (same_payload payload other r.4 s.4 (word 3 e))
same_arguments (Submit node client number payload) other words k r s a b = absurd (cc)
same_arguments (Stored node) (Stored p) words k r s a b = same_node Stored words node p r s a b
same_arguments (Stored node) other words k r s a b = absurd (cc)
same_arguments (Fail node failure) (Fail p other) words k r s a b =
    let e = sym a ∙ b in
    ap₂ (λ (x : ℕ) (y : Failure). Fail x y)
    (same_number node p (omega (arith, r.1)) (omega (arith, s.1)) (word 0 e))
    (same_failure failure other (word 1 e))
same_arguments (Fail node failure) other words k r s a b = absurd (cc)
same_arguments (Crash node) (Crash p) words k r s a b = same_node Crash words node p r s a b
same_arguments (Crash node) other words k r s a b = absurd (cc)
same_arguments (Restart node) (Restart p) words k r s a b = same_node Restart words node p r s a b
same_arguments (Restart node) other words k r s a b = absurd (cc)
same_arguments Reopen Reopen words k r s a b = refl
same_arguments Reopen other words k r s a b = absurd (cc)
same_arguments (Arrive source node name) (Arrive q p x) words k r s a b =
    let e = sym a ∙ b in
    same_route (λ y z. Arrive y z name) source node q p r.0 s.0 (word 0 e) (word 1 e)
    ∙ ap (λ (y : Label). Arrive q p y) (same_label name x r.1 s.1 (word 2 e) (word 3 e))
same_arguments (Arrive source node name) other words k r s a b = absurd (cc)
same_arguments (ArriveFlagged source node name flags) (ArriveFlagged q p x others) words k r s a b =
    let e = sym a ∙ b in
    same_route (λ y z. ArriveFlagged y z name flags) source node q p r.0 s.0 (word 0 e) (word 1 e)
    ∙ ap₂ (λ (y : Label) (f : Flags). ArriveFlagged q p y f)
    (same_label name x r.1 s.1 (word 2 e) (word 3 e))
    (same_number_flags flags others (word 4 e))
same_arguments (ArriveFlagged source node name flags) other words k r s a b = absurd (cc)
same_arguments (Raw node bytes) (Raw p others) words k r s a b =
    let e = sym a.1 ∙ b.1 in
    ap₂ (λ (x : ℕ) (y : List ℕ). Raw x y)
    (same_number node p (omega (arith, r.1)) (omega (arith, s.1)) (word 0 e))
    (same_bytes bytes others b.0 (subst (IsHexWord bytes) (word 1 e) a.2) b.2)
same_arguments (Raw node bytes) other words k r s a b = absurd (cc)
same_arguments (Tick node) (Tick p) words k r s a b = same_node Tick words node p r s a b
same_arguments (Tick node) other words k r s a b = absurd (cc)
same_arguments (Log node) (Log p) words k r s a b = same_node Log words node p r s a b
same_arguments (Log node) other words k r s a b = absurd (cc)
same_arguments (Held name) (Held x) words k r s a b =
    ap Held (same_name name x r s (word 0 (sym a ∙ b)))
same_arguments (Held name) other words k r s a b = absurd (cc)

one_command : (words : List (List ℕ)) (asked other : Command) → InRange asked → InRange other
    → IsSpelled words asked → IsSpelled words other → asked ≡ other
one_command [] asked other r s a b = absurd a
one_command (first ∷ others) asked other r s a b =
    same_arguments asked other others
    (test first (keyword asked) (keyword other) a.0 b.0) r s a.1 b.1

-- a line spells at most one command
pub spells_one : (line : List ℕ) (asked other : Command) → Spells line asked → Spells line other
    → asked ≡ other
spells_one line asked other s t =
    one_command (words_of line) asked other s.range t.range s.words t.words

-- ---- a command has one answer

pair_one : (text said : List ℕ) (new next : Scene) (given : List ℕ × Scene) → (text, new) ≡ given
    → (said, next) ≡ given → (text ≡ said) × (new ≡ next)
pair_one text said new next given t u =
    let e : ◌≡◌ {A = List ℕ × Scene} (text, new) (said, next) =
    t ∙ sym u in (ap (λ (s : List ℕ × Scene). s.0) e, ap (λ (s : List ℕ × Scene). s.1) e)

plays_one : (old : Option Scene) (asked : Command) (text said : List ℕ) (new next : Scene)
    → Plays old asked text new → Plays old asked said next → (text ≡ said) × (new ≡ next)
plays_one None (Group limits) text said new next t u = (t.0 ∙ sym u.0, t.1 ∙ sym u.1)
plays_one None asked text said new next t u = absurd t
plays_one (Some scene) (Group limits) text said new next t u = absurd t
plays_one (Some scene) asked text said new next t u =
    pair_one text said new next (answer scene asked) t u

plays_may : (old : Option Scene) (asked : Command) (text : List ℕ) (new : Scene)
    → Plays old asked text new → MayCome old asked
plays_may None (Group limits) text new t = tt
plays_may None asked text new t = absurd t
plays_may (Some scene) (Group limits) text new t = t
plays_may (Some scene) asked text new t = tt

-- ---- a script ends in one way

ends_one : (state : Option Scene) (left : List (List ℕ)) (number : ℕ) (ended other : RunEnd)
    (last final : List ℕ) → Ends state left number ended last → Ends state left number other final
    → (ended ≡ other) × (last ≡ final)
ends_one state left number Whole Whole last final e f = (refl, e.1 ∙ sym f.1)
ends_one state left number Whole (BadLine bad) last final e f =
    absurd (subst (λ (s : Option Scene). IsBad s []) e.2.1 (subst (IsBad state) e.0 f.0))
ends_one state left number (BadLine bad) Whole last final e f =
    absurd (subst (λ (s : Option Scene). IsBad s []) f.2.1 (subst (IsBad state) f.0 e.0))
ends_one state left number (BadLine bad) (BadLine worse) last final e f =
    (ap BadLine (e.1 ∙ sym f.1), e.2 ∙ (ap bad_line (e.1 ∙ sym f.1) ∙ sym f.2))

-- a script doesn't end before a command that may come
goes_on : (state : Option Scene) (line : List ℕ) (lines : List (List ℕ)) (number : ℕ)
    (ended : RunEnd) (last : List ℕ) (asked : Command) → MayCome state asked → Spells line asked
    → Ends state (line ∷ lines) number ended last → ⊥
goes_on state line lines number Whole last asked may s e = absurd (cc (e.0))
goes_on state line lines number (BadLine bad) last asked may s e = e.0 asked may s

abbrev Same : RunEnd → RunEnd → List ℕ → List ℕ → Type 0
Same ended other output text = (ended ≡ other) × (output ≡ text)

one_way : (old state final : Option Scene) (done others left rest : List (List ℕ))
    (said text last end : List ℕ) (number n m : ℕ) (ended other : RunEnd)
    → done ++ left ≡ others ++ rest → Answers Plays old done said state
    → Answers Plays old others text final → n ≡ length done + number
    → m ≡ length others + number
    → Ends state left n ended last → Ends final rest m other end
    → Same ended other (said ++ last) (text ++ end)
one_way old state final [] [] left rest said text last end number n m ended other same a b c d e f =
    let lines : left ≡ rest = same in
    let counts : m ≡ n = omega (arith, c, d) in
    let there : Ends old rest n ended last =
    subst (λ (l : List (List ℕ)). Ends old l n ended last) lines
    (subst (λ (s : Option Scene). Ends s left n ended last) a.1 e) in
    let here : Ends old rest n other end =
    subst (λ (k : ℕ). Ends old rest k other end) counts
    (subst (λ (s : Option Scene). Ends s rest m other end) b.1 f) in
    let one = ends_one old rest n ended other last end there here in
    (one.0, ap₂ (λ (x y : List ℕ). x ++ y) (a.0 ∙ sym b.0) one.1)
one_way old state final [] (line ∷ others)
    left rest said text last end number n m ended other same a b c d e f =
    absurd (goes_on old line (others ++ rest) n ended last b.0 (plays_may old b.0 b.1 b.2 b.5) b.4
    (subst (λ (l : List (List ℕ)). Ends old l n ended last) same
    (subst (λ (s : Option Scene). Ends s left n ended last) a.1 e)))
one_way old state final (line ∷ done)
    [] left rest said text last end number n m ended other same a b c d e f =
    absurd (goes_on old line (done ++ left) m other end a.0 (plays_may old a.0 a.1 a.2 a.5) a.4
    (subst (λ (l : List (List ℕ)). Ends old l m other end) (sym same)
    (subst (λ (s : Option Scene). Ends s rest m other end) b.1 f)))
one_way old state final (line ∷ done)
    (first ∷ others) left rest said text last end number n m ended other same a b c d e f =
    let lines : line ≡ first = cc same in
    let tail : done ++ left ≡ others ++ rest = cc same in
    let asked : a.0 ≡ b.0 =
    spells_one first a.0 b.0 (subst (λ (l : List ℕ). Spells l a.0) lines a.4) b.4 in
    let answer : (a.1 ≡ b.1) × (a.2 ≡ b.2) =
    plays_one old b.0 a.1 b.1 a.2 b.2
    (subst (λ (o : Command). Plays old o a.1 a.2) asked a.5) b.5 in
    let later =
    one_way (Some b.2) state final done others left rest a.3 b.3 last end
    (suc number) n m ended other tail
    (subst (λ (w : Scene). Answers Plays (Some w) done a.3 state) answer.1 a.7) b.7
    (omega (arith, c)) (omega (arith, d)) e f in (
      later.0,
      ap (λ x. x ++ last) a.6 ∙ append_assoc a.1 (10 ∷ a.3) last
          ∙ ap₂ (λ (x y : List ℕ). x ++ 10 ∷ y) answer.0 later.1
          ∙ sym (ap (λ x. x ++ end) b.6 ∙ append_assoc b.1 (10 ∷ b.3) end),
    )

-- if no store is refused memory, a script has only one outcome
pub one_outcome : HasOneOutcome
one_outcome input ended other unread left before after later w v =
    let one =
    one_way None w.state v.state w.done v.done w.left v.left w.said v.said w.last v.last 1
    (length w.done + 1) (length v.done + 1) ended other
    (sym w.lines ∙ v.lines) w.answers v.answers refl refl w.ends v.ends in
    (one.0, w.written ∙ (ap (λ x. before ++ x) one.1 ∙ sym v.written))
