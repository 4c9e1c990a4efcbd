-- Names as words: a node's digit, a full stop, and the number.
use Rattle.urb_script.proofs.Common.{IsLabel, Label, List, [], ap, arith, decimal, decimal_digit}
use Rattle.urb_script.proofs.Common.{drop, get_or, length, length-drop, name_text, sym, take, ℕ}
use Rattle.urb_script.proofs.Common.{◌++◌, ◌+◌, ◌-◌, ◌<◌, ◌∙◌, ◌∷◌, ◌≡◌}
use Rattle.std.proofs.lemmas.List.{take_all}

-- a name's word
spelled : (x : Label) → IsLabel x → name_text x ≡ (48 + x.sender) ∷ 46 ∷ decimal x.seq
spelled x l =
    ap (λ (s : List ℕ). s ++ (46 ∷ decimal x.seq))
    (decimal_digit x.sender (omega (arith, l.sender)))

-- names with the same word have the same sender, in decimal
pub name_sender : (x y : Label) → IsLabel x → IsLabel y → name_text x ≡ name_text y
    → decimal x.sender ≡ decimal y.sender
name_sender x y l k e =
    let f = sym (spelled x l) ∙ e ∙ spelled y k in
    decimal_digit x.sender (omega (arith, l.sender))
    ∙ ap (λ (d : ℕ). d ∷ []) (ap (λ (w : List ℕ). get_or w 0 0) f)
    ∙ sym (decimal_digit y.sender (omega (arith, k.sender)))

-- names with the same word have the same number, in decimal
pub name_seq : (x y : Label) → IsLabel x → IsLabel y → name_text x ≡ name_text y
    → decimal x.seq ≡ decimal y.seq
name_seq x y l k e = ap (λ (w : List ℕ). drop 2 w) (sym (spelled x l) ∙ e ∙ spelled y k)

-- a name's word has at least two bytes, and its second is a full stop
pub name_long : (x : Label) (word : List ℕ) → IsLabel x → word ≡ name_text x → length word < 2 → ⊥
name_long x word l e short = omega (arith, ap length (e ∙ spelled x l), short)

-- the second byte of a name's word is a full stop
pub name_stop : (x : Label) (word : List ℕ) → IsLabel x → word ≡ name_text x → get_or word 1 0 ≡ 46
name_stop x word l e = ap (λ (w : List ℕ). get_or w 1 0) (e ∙ spelled x l)

-- the first byte of a name's word is its sender's digit
pub name_front : (x : Label) (word : List ℕ) → IsLabel x → word ≡ name_text x
    → take 1 word ≡ decimal x.sender
name_front x word l e =
    ap (λ (w : List ℕ). take 1 w) (e ∙ spelled x l)
    ∙ sym (decimal_digit x.sender (omega (arith, l.sender)))

name_back : (x : Label) (word : List ℕ) → IsLabel x → word ≡ name_text x
    → drop 2 word ≡ decimal x.seq
name_back x word l e = ap (λ (w : List ℕ). drop 2 w) (e ∙ spelled x l)

-- the end of a word, as a slice of it
pub name_tail : (x : Label) (word : List ℕ) → IsLabel x → word ≡ name_text x
    → take (length word - 2) (drop 2 word) ≡ decimal x.seq
name_tail x word l e =
    take_all (length word - 2) (drop 2 word) (omega (arith, length-drop 2 word))
    ∙ name_back x word l e
