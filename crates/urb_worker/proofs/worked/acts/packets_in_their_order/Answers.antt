-- Packets that were given to the link, or lost, one by one; and how many acts that takes.
use Rattle.std.proofs.Common.{List, [], ap, arith, inl, inr, length, map, refl, ◌+◌, ◌∙◌, ◌∷◌}
use Rattle.std.proofs.Common.{◌≡◌}
use Rattle.std.proofs.lemmas.List.{length-append}
use Rattle.urb_names.specs.CarriedPackets.{Carried}
use Rattle.urb_names.specs.PacketGrammar.{spelling}
use Rattle.urb_worker.specs.Acts.{Act, Lost, MaySend, Sends, Sent}
use Rattle.urb_worker.specs.internal.ActExamples.{given, packet_for}
use Rattle.urb_worker.proofs.worked.acts.packets_in_their_order.Goals as goal

pub returns-clause-two : goal.returns-clause-two
returns-clause-two c = (_, inl refl, (_, inr refl, refl))

pub returns-clause-three : goal.returns-clause-three
returns-clause-three c = (_, inl refl, (_, inl refl, (_, inl refl, refl)))

pub returns-clause-six : goal.returns-clause-six
returns-clause-six c =
    (_, inl refl, (_, inl refl, (_, inl refl, (_, inl refl, (_, inl refl, (_, inl refl, refl))))))

-- a packet takes one act
one-more : (before : List Act) (packet : Carried) (after : List Act) → MaySend before packet after
    → length after ≡ length before + 1
one-more before packet after (inl is) =
    ap length is ∙ length-append before (Sent packet.target (spelling packet) ∷ [])
one-more before packet after (inr is) =
    ap length is ∙ length-append before (Lost packet.target ∷ [])

-- packets take as many
as-many : (before : List Act) (packets : List Carried) (after : List Act)
    → Sends before packets after → length after ≡ length before + length packets
as-many before [] after is = omega (arith, ap length is)
as-many before (packet ∷ packets) after (between, may, sends) =
    omega
    (arith, one-more before packet between may, as-many between packets after sends)

pub returns-clause-all_but_the_fourth : goal.returns-clause-all_but_the_fourth
returns-clause-all_but_the_fourth c h =
    let count : 3 ≡ 4 =
    as-many [] (map packet_for (1 ∷ 3 ∷ 4 ∷ 5 ∷ [])) (map given (1 ∷ 3 ∷ 4 ∷ [])) h in
    omega (arith, count)

pub returns-clause-all_but_the_sixth : goal.returns-clause-all_but_the_sixth
returns-clause-all_but_the_sixth c h =
    let count : 5 ≡ 6 =
    as-many [] (map packet_for (1 ∷ 3 ∷ 4 ∷ 5 ∷ 6 ∷ 7 ∷ []))
    (map given (1 ∷ 3 ∷ 4 ∷ 5 ∷ 6 ∷ [])) h in
    omega (arith, count)
