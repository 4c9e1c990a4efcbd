-- Lists of events that succeed, one after the other, and what they lead to.
use Rattle.urb_world.proofs.Common.{AllByRecursion, Event, IsDone, IsHarmless, List, Plan, World}
use Rattle.urb_world.proofs.Common.{[], after, both, each, refl, run, step, subst, sym, ◌++◌, ◌∷◌}
use Rattle.urb_world.proofs.Common.{◌≡◌}
use Rattle.urb_world.specs.RecoveredWorlds.{Goes}

-- no events leave the world as it is
pub after-none : (w : World) → after w [] ≡ w
unfolding run
after-none w = refl

-- one event leads to the world of its step
pub after-one : (w : World) (event : Event) → after w (event ∷ []) ≡ (step w event).1
unfolding run
after-one w event = refl

-- two lists of events lead to the world to which the second leads from the end of the first
pub after-append : (w : World) (xs ys : List Event) → after w (xs ++ ys) ≡ after (after w xs) ys
unfolding run
after-append w [] ys = refl
after-append w (event ∷ xs) ys = after-append (step w event).1 xs ys

-- if the first events succeed, and the second ones succeed after them, all succeed
pub goes-append : (w : World) (xs ys : List Event) → Goes w xs → Goes (after w xs) ys
    → Goes w (xs ++ ys)
unfolding run
goes-append w [] ys h k = k
goes-append w (event ∷ xs) ys h k = (h.0, h.1, goes-append (step w event).1 xs ys h.2 k)

-- these events succeed, and the world after them has this property
pub record Reaches (Q : World → Type 0) (w : World) (events : List Event) : Type 0 where
  -- the events succeed
  pub goes : Goes w events
  -- the world after them has the property
  pub leads : Q (after w events)

-- no events reach a property that the world has
pub reaches-none : (Q : World → Type 0) (w : World) → Q w → Reaches Q w []
unfolding run
reaches-none Q w h = record { goes = tt; leads = h }

-- a harmless event that isn't refused reaches each property of the world after it
pub reaches-one : (Q : World → Type 0) (w : World) (event : Event) → IsHarmless w event
    → IsDone (step w event).0 → Q (step w event).1 → Reaches Q w (event ∷ [])
unfolding run
reaches-one Q w event h d q = record { goes = (h, d, tt); leads = q }

-- if events reach a property, and more events reach another from there, all of them reach the other
-- one
pub reaches-append : (Q R : World → Type 0) (w : World) (xs ys : List Event) → Reaches Q w xs
    → (Q (after w xs) → Reaches R (after w xs) ys) → Reaches R w (xs ++ ys)
reaches-append Q R w xs ys h k =
    let next = k h.leads in
    record {
      goes = goes-append w xs ys h.goes next.goes;
      leads =
          subst R (sym (after-append w xs ys)) next.leads;
    }

-- if a plan reaches a property, and another plan leads from there to a second one, both reach the
-- second
pub reaches-both : (Q R : World → Type 0) (first second : Plan) (w : World) → Reaches Q w (first w)
    → ((v : World) → Q v → Reaches R v (second v)) → Reaches R w (both first second w)
reaches-both Q R first second w h k =
    reaches-append Q R w (first w) (second (after w (first w))) h (k (after w (first w)))

-- events that reach a property reach each weaker one
pub reaches-weaker : (Q R : World → Type 0) (w : World) (events : List Event)
    → ((v : World) → Q v → R v) → Reaches Q w events → Reaches R w events
reaches-weaker Q R w events f h = record { goes = h.goes; leads = f (after w events) h.leads }

-- ---- a plan for each of many

-- There is a plan for each element of a list. If the world is good and the plan's condition holds,
-- the plan succeeds. The world after it is good too, and the plan's result holds there. Later plans
-- preserve conditions and results.
pub record Course {A : Type 0} (plan : A → Plan) (Good : World → Type 0)
    (Onward : World → World → Type 0) (Before After : A → World → Type 0) : Type 0 where
  -- from a good world that meets an element's condition, its plan leads to one that has its result
  pub one : (x : A) (w : World) → Good w → Before x w
      → Reaches (λ v. Good v × Onward w v × After x v) w (plan x w)
  -- a good world goes on from itself
  pub still : (w : World) → Good w → Onward w w
  -- a world goes on from each world that an earlier one goes on from
  pub further : (u v w : World) → Onward u v → Onward v w → Onward u w
  -- a condition that is met stays met
  pub before : (x : A) (v w : World) → Onward v w → Before x v → Before x w
  -- a result that is reached stays reached
  pub after : (x : A) (v w : World) → Onward v w → After x v → After x w

module _ {A : Type 0} (plan : A → Plan) (Good : World → Type 0) (Onward : World → World → Type 0)
    (Before After : A → World → Type 0) (course : Course plan Good Onward Before After) where
  before_all : (xs : List A) (v w : World) → Onward v w → AllByRecursion (λ x. Before x v) xs
      → AllByRecursion (λ x. Before x w) xs
  before_all [] v w o h = tt
  before_all (x ∷ xs) v w o h = (course.before x v w o h.0, before_all xs v w o h.1)

  -- the plans of all elements, one after the other, lead to a good world that has all results
  pub reaches-each : (xs : List A) (w : World) → Good w → AllByRecursion (λ x. Before x w) xs
      → Reaches (λ v. Good v × Onward w v × AllByRecursion (λ x. After x v) xs) w (each plan xs w)
  reaches-each [] w g h = reaches-none _ w (g, course.still w g, tt)
  reaches-each (x ∷ xs) w g h =
      reaches-append (λ v. Good v × Onward w v × After x v) _ w (plan x w)
      (each plan xs (after w (plan x w))) (course.one x w g h.0)
      (λ q. reaches-weaker _ _ (after w (plan x w)) (each plan xs (after w (plan x w)))
      (λ v k. (
        k.0,
        course.further w (after w (plan x w)) v q.1 k.1,
        (course.after x (after w (plan x w)) v k.1 q.2, k.2),
      ))
      (reaches-each xs (after w (plan x w)) q.0 (before_all xs w (after w (plan x w)) q.1 h.1)))
