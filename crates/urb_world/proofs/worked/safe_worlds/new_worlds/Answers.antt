-- A new group keeps all that is promised. So does a world whose nodes all hold the same message.
use Rattle.urb_world.proofs.Common.{Bool, Content, Limits, OneMessage, Safe, [], and_parts, arith}
use Rattle.urb_world.proofs.Common.{false, false≢true, has_pair, inl, message, name, refl}
use Rattle.urb_world.proofs.Common.{same_message, same_message-true, same_name, started, true, ◌||◌}
use Rattle.urb_world.proofs.Common.{◌∷◌, ◌≡◌}
use Rattle.urb_world.proofs.worked.safe_worlds.new_worlds.Goals as goal

safe : (size : Limits) → Safe (started size)
safe size = record {
  in_order = λ p s. record { numbers = refl; messages = refl };
  no_twice = λ p i j d low high same. omega (arith, high);
  uniform = λ p x held. absurd (false≢true held);
}

one : (size : Limits) → OneMessage (started size)
one size p q x m o first second = absurd (false≢true first)

-- the first of two tests, if the other one fails
left : (b : Bool) → (b || false) ≡ true → b ≡ true
left true e = refl
left false e = e

pub returns-clause-safe : goal.returns-clause-safe
returns-clause-safe c = safe

pub returns-clause-one_message : goal.returns-clause-one_message
returns-clause-one_message c = one

pub returns-clause-promised : goal.returns-clause-promised
returns-clause-promised c size = record {
  safe = safe size;
  agree = λ p q s. inl ([], refl);
  one_message = one size;
}

pub returns-clause-the_same_message_at_all : goal.returns-clause-the_same_message_at_all
returns-clause-the_same_message_at_all c p q x m o first second =
    let e = only m first in let f = only o second in cc
  where
    only : (n : Content) → has_pair ((name 1 1, message 7 1 "") ∷ []) x n ≡ true
        → message 7 1 "" ≡ n
    only n held =
        let both = and_parts (same_name (name 1 1) x) (same_message (message 7 1 "") n)
        (left _ held) in
        same_message-true (message 7 1 "") n both.1
