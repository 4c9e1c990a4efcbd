-- What a user of the daemon sees: what each node has accepted, its log, and what may happen next.
use Rattle.std.specs.Prelude.{List, None, Option, Some, [], drop, length, map, slice_get, suc, take}
use Rattle.std.specs.Prelude.{ℕ, ◌++◌, ◌-◌, ◌∷◌, ◌≡◌, ◌≢◌, ◌≤◌, ◌⊎◌}
use Rattle.urb_group.specs.declared.state.State.TheVariants as state
use Rattle.urb_names.specs.LabelsAndContents.{Content, Label, Limits}
use Rattle.urb_names.specs.Release.{part_of}
use Rattle.urb_show.specs.Answers.{Answer, Refusal, State, answer_to, crash_answer, restart_refusal}

-- what a user sees of a node
pub record Node : Type 0 where
  pub list : List Content  -- the messages that it has accepted
  pub log : List Label  -- the name s.k means message k on the list of node s
  pub state : State  -- ready; storing, while it writes to its disk; or down
  pub asked : List Content  -- the message of a submit that has no answer yet, if there is one

-- the number of nodes, how many messages each may accept, and the nodes
pub record Service : Type 0 where
  pub size : Limits
  pub node : ℕ → Node

-- what may happen at a node: a request with its answer, or something that nobody asked for
pub data Act : Type 0 where
  Submit : (m : Content) (told : Answer) → Act  -- `None`: Finish or a failure answers it
  Finish : (told : List ℕ) → Act  -- the disk has it, and its submit is told ACCEPTED with the number
  Read : (first max : ℕ) (page : List (Label × Option Content)) (total : ℕ) → Act  -- or WAIT
  Status : (word : State) (accepted logged : ℕ) → Act
  Crash : (told : Option Refusal) → Act  -- `None`: DONE
  Restart : (told : Option Refusal) → Act
  Write : Act  -- the node begins to write something else than a submit
  Fail : Act  -- its disk failed
  Rest : Act  -- nothing that a user sees

-- the entries of a log: its names, each with its message
abbrev pub entries_at : Service → List Label → List (Label × Option Content)
entries_at s log = map (λ x. (x, slice_get (s.node x.sender).list (x.seq - 1))) log

-- each name is its sender's next one in this log, and its message has been accepted
abbrev pub Join : Service → List Label → List Label → Type 0
Join s log [] = Unit {0}
Join s log (x ∷ more) =
    (x.seq ≡ suc (length (part_of x.sender log))) × (x.seq ≤ length (s.node x.sender).list)
    × Join s (log ++ x ∷ []) more

-- node a becomes b: it is ready, has accepted these too, and names may have joined its log
abbrev pub Comes : Service → List Content → Node → Node → Type 0
Comes s more a b =
    (joined : List Label) × Join s a.log joined × (b ≡ record
    { list = a.list ++ more; log = a.log ++ joined; state = state.Ready; asked = [] })

-- it is ready again with what it had, and has accepted an unanswered submit or not
abbrev pub Resumes : Service → Node → Node → Type 0
Resumes s a b = Comes s [] a b ⊎ Comes s a.asked a b

-- what each act does to a node; s is the service after it
abbrev pub Does : Service → Act → Node → Node → Type 0
Does s (Submit m None) a b =
    (answer_to s.size a.list a.state m ≡ None)
    × (b ≡ record a { state = state.Storing; asked = m ∷ [] })
Does s (Submit m told) a b = (answer_to s.size a.list a.state m ≡ told) × (b ≡ a)
Does s (Finish told) a b =
    (a.state ≡ state.Storing) × (told ≡ map (λ m. suc (length a.list)) a.asked) × Comes s a.asked a b
Does s (Read first max page n) a b =
    (page ≡ take max (drop (first - 1) (entries_at s a.log))) × (n ≡ length a.log) × (b ≡ a)
Does s (Status is m n) a b = (is ≡ a.state) × (m ≡ length a.list) × (n ≡ length a.log) × (b ≡ a)
Does s (Crash told) a b = (told ≡ crash_answer a.state) × (b ≡ record a { state = state.Down })
Does s (Restart None) a b = (a.state ≡ state.Down) × Resumes s a b
Does s (Restart (Some why)) a b = (why ≡ restart_refusal a.state) × (b ≡ a)
Does s Write a b = (a.state ≡ state.Ready) × (b ≡ record a { state = state.Storing })
Does s Fail a b = (a.state ≡ state.Storing) × (b ≡ record a { state = state.Down })
Does s Rest a b = b ≡ a

-- node p does this, and the other nodes stay
pub record Step (old : Service) (p : ℕ) (act : Act) (new : Service) : Type 0 where
  pub size : new.size ≡ old.size
  pub here : Does new act (old.node p) (new.node p)
  pub others : (q : ℕ) → q ≢ p → new.node q ≡ old.node q

-- the daemon stopped at some moment and started again
abbrev pub Starts : Service → Service → Type 0
Starts old new = (new.size ≡ old.size) × ((p : ℕ) → Resumes new (old.node p) (new.node p))
