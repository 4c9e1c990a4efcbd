-- Words that are no command.
use Rattle.urb_script.proofs.Common.{AreArguments, ArriveFlagged, Bool, Command, CommandLine}
use Rattle.urb_script.proofs.Common.{Failure, Flags, Group, Held, IfSome, InRange, IsNodeNumber}
use Rattle.urb_script.proofs.Common.{IsSpelled, IsTrue, Label, Limits, List, Log, None, Option, Raw}
use Rattle.urb_script.proofs.Common.{Reopen, Some, [], ap, arith, bytes_eq, codes, decimal}
use Rattle.urb_script.proofs.Common.{decimal_injective, false, get_or, is_some, keyword, length}
use Rattle.urb_script.proofs.Common.{length-slice_split, subst, sym, true, words_left, words_of, ℕ}
use Rattle.urb_script.proofs.Common.{◌==◌, ◌↔◌, ◌∙◌, ◌∷◌, ◌≡◌, ◌≢◌, ◌≤◌}
use Rattle.std.specs.Option.{IfNone}
use Rattle.std.specs.Borrow.{Bor}
use Rattle.std.proofs.lemmas.Slice.Eq.{bytes_eq-Decides}
use Rattle.urb_names.specs.declared.limits.TheConstants.{MAX_NODES}
use Rattle.urb_script.specs.Commands.{Arrive, Crash, Fail, Restart, Stored, Submit, Tick}
use Rattle.urb_script.specs.internal.CommandLines.{HasNodeAlone, command}

-- a text has a word
words_some : (text : List ℕ) → words_of text ≡ [] → ⊥
words_some text e = omega (arith, length-slice_split (λ byte. byte == 32) text, ap length e)

-- if something is left, it is a word
pub left_some : (rest : Option (Bor (List ℕ))) → is_some rest ≡ true → words_left rest ≡ [] → ⊥
left_some None s e = absurd (cc)
left_some (Some rest) s e = words_some rest.now e

-- a word that is alone has nothing after it
pub one_word : (word other : List ℕ) (rest : Option (Bor (List ℕ))) (words : List (List ℕ))
    → words ≡ word ∷ words_left rest → is_some rest ≡ true → words ≡ other ∷ [] → ⊥
one_word word other rest words e s f = left_some rest s (cc)

-- the words after the first are the same
pub next_words : {words after others : List (List ℕ)} {one other : List ℕ} → words ≡ one ∷ after
    → words ≡ other ∷ others → after ≡ others
next_words e f = cc

-- the words after the first four are the same
pub words_behind : {words after others : List (List ℕ)} {a b c d w x y z : List ℕ}
    → words ≡ a ∷ b ∷ c ∷ d ∷ after → words ≡ w ∷ x ∷ y ∷ z ∷ others → after ≡ others
words_behind e f = cc

-- the number of the first word is the same too
pub first_number : {words after others : List (List ℕ)} (m n : ℕ) → m ≤ MAX_NODES → n ≤ MAX_NODES
    → words ≡ decimal m ∷ after → words ≡ decimal n ∷ others → m ≡ n
first_number m n l u e f =
    decimal_injective m n (omega (arith, l)) (omega (arith, u))
    (ap (λ (words : List (List ℕ)). get_or words 0 []) (sym e ∙ f))

-- a word that equals two others
pub test : (word xs ys : List ℕ) → word ≡ xs → word ≡ ys → bytes_eq xs ys ≡ true
test word xs ys e f = (bytes_eq-Decides xs ys).1 (sym e ∙ f)

-- a test that fails
pub not_word : (result : Bool) (P : Type 0) → (IsTrue result ↔ P) → result ≡ false → P → ⊥
not_word result P says fails p = let holds : result ≡ true = says.1 p in absurd (cc)

-- if P holds when nothing is found, and Q follows from P, then Q holds when nothing is found
none_of : {T : Type 0} (result : Option T) (P Q : Type 0) → (P → Q) → IfNone result P
    → IfNone result Q
none_of None P Q f p = f p
none_of (Some found) P Q f p = tt

-- what is found has the first word
pub some_as : (result : Option CommandLine) (word key : List ℕ) (others : List (List ℕ))
    → word ≡ key
    → IfSome result (λ found. IsSpelled (key ∷ others) (command found) × InRange (command found))
    → IfSome result (λ found. IsSpelled (word ∷ others) (command found) × InRange (command found))
some_as result word key others same some =
    subst (λ (first : List ℕ). IfSome result
    (λ found. IsSpelled (first ∷ others) (command found) × InRange (command found)))
    (sym same) some

-- no command has the word `group` and these words after it
no_group : (word : List ℕ) (others : List (List ℕ)) → word ≡ codes "group"
    → ((limits : Limits) → InRange (Group limits)
    → AreArguments (Group limits) others → ⊥)
    → (asked : Command) → IsSpelled (word ∷ others) asked → InRange asked → ⊥
no_group word others same none (Group limits) s r = none limits r s.1
no_group word others same none asked s r =
    let e = test word (codes "group") (keyword asked) same s.0 in absurd (cc)

-- a line that begins with `group` is no command if no `group` has the words after it
pub none_group : {T : Type 0} (result : Option T) (word : List ℕ) (others : List (List ℕ))
    → word ≡ codes "group"
    → IfNone result ((limits : Limits) → InRange (Group limits)
    → AreArguments (Group limits) others → ⊥)
    → IfNone result ((asked : Command) → IsSpelled (word ∷ others) asked → InRange asked → ⊥)
none_group result word others same none = none_of result _ _ (no_group word others same) none

-- no command has the word `submit` and these words after it
no_submit : (word : List ℕ) (others : List (List ℕ)) → word ≡ codes "submit"
    → ((node client number : ℕ) (payload : List ℕ) → InRange (Submit node client number payload)
    → AreArguments (Submit node client number payload) others → ⊥)
    → (asked : Command) → IsSpelled (word ∷ others) asked → InRange asked → ⊥
no_submit word others same none (Submit node client number payload) s r = none node client number payload r s.1
no_submit word others same none asked s r =
    let e = test word (codes "submit") (keyword asked) same s.0 in absurd (cc)

-- a line that begins with `submit` is no command if no `submit` has the words after it
pub none_submit : {T : Type 0} (result : Option T) (word : List ℕ) (others : List (List ℕ))
    → word ≡ codes "submit"
    → IfNone result ((node client number : ℕ) (payload : List ℕ) → InRange (Submit node client number payload)
    → AreArguments (Submit node client number payload) others → ⊥)
    → IfNone result ((asked : Command) → IsSpelled (word ∷ others) asked → InRange asked → ⊥)
none_submit result word others same none = none_of result _ _ (no_submit word others same) none

-- no command has the word `fail` and these words after it
no_fail : (word : List ℕ) (others : List (List ℕ)) → word ≡ codes "fail"
    → ((node : ℕ) (failure : Failure) → InRange (Fail node failure)
    → AreArguments (Fail node failure) others → ⊥)
    → (asked : Command) → IsSpelled (word ∷ others) asked → InRange asked → ⊥
no_fail word others same none (Fail node failure) s r = none node failure r s.1
no_fail word others same none asked s r =
    let e = test word (codes "fail") (keyword asked) same s.0 in absurd (cc)

-- a line that begins with `fail` is no command if no `fail` has the words after it
pub none_fail : {T : Type 0} (result : Option T) (word : List ℕ) (others : List (List ℕ))
    → word ≡ codes "fail"
    → IfNone result ((node : ℕ) (failure : Failure) → InRange (Fail node failure)
    → AreArguments (Fail node failure) others → ⊥)
    → IfNone result ((asked : Command) → IsSpelled (word ∷ others) asked → InRange asked → ⊥)
none_fail result word others same none = none_of result _ _ (no_fail word others same) none

-- no command has the word `arrive` and these words after it
no_arrive : (word : List ℕ) (others : List (List ℕ)) → word ≡ codes "arrive"
    → ((source node : ℕ) (name : Label) → InRange (Arrive source node name)
    → AreArguments (Arrive source node name) others → ⊥)
    → (asked : Command) → IsSpelled (word ∷ others) asked → InRange asked → ⊥
no_arrive word others same none (Arrive source node name) s r = none source node name r s.1
no_arrive word others same none asked s r =
    let e = test word (codes "arrive") (keyword asked) same s.0 in absurd (cc)

-- a line that begins with `arrive` is no command if no `arrive` has the words after it
pub none_arrive : {T : Type 0} (result : Option T) (word : List ℕ) (others : List (List ℕ))
    → word ≡ codes "arrive"
    → IfNone result ((source node : ℕ) (name : Label) → InRange (Arrive source node name)
    → AreArguments (Arrive source node name) others → ⊥)
    → IfNone result ((asked : Command) → IsSpelled (word ∷ others) asked → InRange asked → ⊥)
none_arrive result word others same none = none_of result _ _ (no_arrive word others same) none

-- no command has the word `arrive2` and these words after it
no_arrive_flagged : (word : List ℕ) (others : List (List ℕ)) → word ≡ codes "arrive2"
    → ((source node : ℕ) (name : Label) (flags : Flags) → InRange (ArriveFlagged source node name flags)
    → AreArguments (ArriveFlagged source node name flags) others → ⊥)
    → (asked : Command) → IsSpelled (word ∷ others) asked → InRange asked → ⊥
no_arrive_flagged word others same none (ArriveFlagged source node name flags) s r = none source node name flags r s.1
no_arrive_flagged word others same none asked s r =
    let e = test word (codes "arrive2") (keyword asked) same s.0 in absurd (cc)

-- a line that begins with `arrive2` is no command if no `arrive2` has the words after it
pub none_arrive_flagged : {T : Type 0} (result : Option T) (word : List ℕ) (others : List (List ℕ))
    → word ≡ codes "arrive2"
    → IfNone result ((source node : ℕ) (name : Label) (flags : Flags) → InRange (ArriveFlagged source node name flags)
    → AreArguments (ArriveFlagged source node name flags) others → ⊥)
    → IfNone result ((asked : Command) → IsSpelled (word ∷ others) asked → InRange asked → ⊥)
none_arrive_flagged result word others same none = none_of result _ _ (no_arrive_flagged word others same) none

-- no command has the word `raw` and these words after it
no_raw : (word : List ℕ) (others : List (List ℕ)) → word ≡ codes "raw"
    → ((node : ℕ) (bytes : List ℕ) → InRange (Raw node bytes)
    → AreArguments (Raw node bytes) others → ⊥)
    → (asked : Command) → IsSpelled (word ∷ others) asked → InRange asked → ⊥
no_raw word others same none (Raw node bytes) s r = none node bytes r s.1
no_raw word others same none asked s r =
    let e = test word (codes "raw") (keyword asked) same s.0 in absurd (cc)

-- a line that begins with `raw` is no command if no `raw` has the words after it
pub none_raw : {T : Type 0} (result : Option T) (word : List ℕ) (others : List (List ℕ))
    → word ≡ codes "raw"
    → IfNone result ((node : ℕ) (bytes : List ℕ) → InRange (Raw node bytes)
    → AreArguments (Raw node bytes) others → ⊥)
    → IfNone result ((asked : Command) → IsSpelled (word ∷ others) asked → InRange asked → ⊥)
none_raw result word others same none = none_of result _ _ (no_raw word others same) none

-- no command has the word `held` and these words after it
no_held : (word : List ℕ) (others : List (List ℕ)) → word ≡ codes "held"
    → ((name : Label) → InRange (Held name)
    → AreArguments (Held name) others → ⊥)
    → (asked : Command) → IsSpelled (word ∷ others) asked → InRange asked → ⊥
no_held word others same none (Held name) s r = none name r s.1
no_held word others same none asked s r =
    let e = test word (codes "held") (keyword asked) same s.0 in absurd (cc)

-- a line that begins with `held` is no command if no `held` has the words after it
pub none_held : {T : Type 0} (result : Option T) (word : List ℕ) (others : List (List ℕ))
    → word ≡ codes "held"
    → IfNone result ((name : Label) → InRange (Held name)
    → AreArguments (Held name) others → ⊥)
    → IfNone result ((asked : Command) → IsSpelled (word ∷ others) asked → InRange asked → ⊥)
none_held result word others same none = none_of result _ _ (no_held word others same) none

-- no word follows `reopen`
no_reopen : (word : List ℕ) (others : List (List ℕ)) → word ≡ codes "reopen"
    → (AreArguments Reopen others → ⊥)
    → (asked : Command) → IsSpelled (word ∷ others) asked → InRange asked → ⊥
no_reopen word others same none Reopen s r = none s.1
no_reopen word others same none asked s r =
    let e = test word (codes "reopen") (keyword asked) same s.0 in absurd (cc)

-- a line that begins with `reopen` is no command if `reopen` can't have the words after it
pub none_reopen : {T : Type 0} (result : Option T) (word : List ℕ) (others : List (List ℕ))
    → word ≡ codes "reopen" → IfNone result (AreArguments Reopen others → ⊥)
    → IfNone result ((asked : Command) → IsSpelled (word ∷ others) asked → InRange asked → ⊥)
none_reopen result word others same none = none_of result _ _ (no_reopen word others same) none

-- a word that isn't one of the other keywords
pub record IsNodeWord (word : List ℕ) : Type 0 where
  pub group : word ≢ codes "group"
  pub submit : word ≢ codes "submit"
  pub fail : word ≢ codes "fail"
  pub reopen : word ≢ codes "reopen"
  pub arrive : word ≢ codes "arrive"
  pub arrive_flagged : word ≢ codes "arrive2"
  pub raw : word ≢ codes "raw"
  pub held : word ≢ codes "held"

no_other : (word : List ℕ) (others : List (List ℕ)) → IsNodeWord word
    → ((asked : Command) → HasNodeAlone asked → IsSpelled (word ∷ others) asked → InRange asked → ⊥)
    → (asked : Command) → IsSpelled (word ∷ others) asked → InRange asked → ⊥
no_other word others not none (Group limits) s r = not.group s.0
no_other word others not none (Submit node client number payload) s r = not.submit s.0
no_other word others not none (Fail node failure) s r = not.fail s.0
no_other word others not none Reopen s r = not.reopen s.0
no_other word others not none (Arrive source node name) s r = not.arrive s.0
no_other word others not none (ArriveFlagged source node name flags) s r = not.arrive_flagged s.0
no_other word others not none (Raw node bytes) s r = not.raw s.0
no_other word others not none (Held name) s r = not.held s.0
no_other word others not none asked s r = none asked tt s r

-- the word isn't one of the other keywords, and no command has it with a node alone
pub none_other : {T : Type 0} (result : Option T) (word : List ℕ) (others : List (List ℕ))
    → IsNodeWord word
    → IfNone result ((asked : Command) → HasNodeAlone asked → IsSpelled (word ∷ others) asked
    → InRange asked → ⊥)
    → IfNone result ((asked : Command) → IsSpelled (word ∷ others) asked → InRange asked → ⊥)
none_other result word others not none = none_of result _ _ (no_other word others not) none

-- no node follows
pub no_node : (word : List ℕ) (others : List (List ℕ))
    → ((node : ℕ) → IsNodeNumber node → others ≢ decimal node ∷ [])
    → (asked : Command) → HasNodeAlone asked → IsSpelled (word ∷ others) asked → InRange asked → ⊥
no_node word others none (Stored node) h s r = none node r s.1
no_node word others none (Crash node) h s r = none node r s.1
no_node word others none (Restart node) h s r = none node r s.1
no_node word others none (Tick node) h s r = none node r s.1
no_node word others none (Log node) h s r = none node r s.1
no_node word others none asked h s r = absurd h

-- the word isn't one of those that a node alone follows
pub no_keyword : (word : List ℕ) (others : List (List ℕ))
    → word ≢ codes "stored" → word ≢ codes "crash" → word ≢ codes "restart" → word ≢ codes "tick"
    → word ≢ codes "log"
    → (asked : Command) → HasNodeAlone asked → IsSpelled (word ∷ others) asked → InRange asked → ⊥
no_keyword word others stored crash restart tick log (Stored node) h s r = stored s.0
no_keyword word others stored crash restart tick log (Crash node) h s r = crash s.0
no_keyword word others stored crash restart tick log (Restart node) h s r = restart s.0
no_keyword word others stored crash restart tick log (Tick node) h s r = tick s.0
no_keyword word others stored crash restart tick log (Log node) h s r = log s.0
no_keyword word others stored crash restart tick log asked h s r = absurd h
