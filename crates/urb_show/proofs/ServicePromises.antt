-- No step of the service takes anything back, and no start does.
use Rattle.std.proofs.Common.{Bool, List, None, Some, [], ap, append-nil, eq-eqb, eqb-true, false}
use Rattle.std.proofs.Common.{refl, subst, sym, true, ℕ, ⊎_elim, ◌==◌, ◌∙◌, ◌≡◌}
use Rattle.std.proofs.lemmas.Bool.{false≢true}
use Rattle.urb_names.specs.LabelsAndContents.{Content}
use Rattle.urb_show.specs.Service.{Act, Comes, Does, Node, Resumes, Service, Starts, Step}
use Rattle.urb_show.specs.Service as seen
use Rattle.urb_show.specs.ServicePromises.{AllKeep, Keeps}

same-keeps : (a b : Node) → b.list ≡ a.list → b.log ≡ a.log → Keeps a b
same-keeps a b e f = record {
  list = ([], append-nil a.list ∙ sym e);
  log = ([], append-nil a.log ∙ sym f);
}

comes-keeps : (s : Service) (more : List Content) (a b : Node) → Comes s more a b → Keeps a b
comes-keeps s more a b c = record {
  list = (more, sym (ap (λ (n : Node). n.list) c.2));
  log = (c.0, sym (ap (λ (n : Node). n.log) c.2));
}

resumes-keeps : (s : Service) (a b : Node) → Resumes s a b → Keeps a b
resumes-keeps s a b h =
    ⊎_elim (λ c. comes-keeps s [] a b c) (λ c. comes-keeps s a.asked a b c) h

-- a node keeps what it had, whatever it does
does-keeps : (s : Service) (act : Act) (a b : Node) → Does s act a b → Keeps a b
does-keeps s (seen.Submit m None) a b h =
    same-keeps a b (ap (λ (n : Node). n.list) h.1) (ap (λ (n : Node). n.log) h.1)
does-keeps s (seen.Submit m (Some told)) a b h =
    same-keeps a b (ap (λ (n : Node). n.list) h.1) (ap (λ (n : Node). n.log) h.1)
does-keeps s (seen.Finish told) a b h = comes-keeps s a.asked a b h.2
does-keeps s (seen.Read first max page n) a b h =
    same-keeps a b (ap (λ (n : Node). n.list) h.2) (ap (λ (n : Node). n.log) h.2)
does-keeps s (seen.Status is m n) a b h =
    same-keeps a b (ap (λ (n : Node). n.list) h.3) (ap (λ (n : Node). n.log) h.3)
does-keeps s (seen.Crash told) a b h =
    same-keeps a b (ap (λ (n : Node). n.list) h.1) (ap (λ (n : Node). n.log) h.1)
does-keeps s (seen.Restart None) a b h = resumes-keeps s a b h.1
does-keeps s (seen.Restart (Some why)) a b h =
    same-keeps a b (ap (λ (n : Node). n.list) h.1) (ap (λ (n : Node). n.log) h.1)
does-keeps s seen.Write a b h =
    same-keeps a b (ap (λ (n : Node). n.list) h.1) (ap (λ (n : Node). n.log) h.1)
does-keeps s seen.Fail a b h =
    same-keeps a b (ap (λ (n : Node). n.list) h.1) (ap (λ (n : Node). n.log) h.1)
does-keeps s seen.Rest a b h =
    same-keeps a b (ap (λ (n : Node). n.list) h) (ap (λ (n : Node). n.log) h)

-- in each step of the service, every node keeps what it has accepted and what its log has
pub step-keeps_all : (old new : Service) (p : ℕ) (act : Act) → Step old p act new
    → AllKeep old new
step-keeps_all old new p act h q = at (q == p) refl
  where
    at : (b : Bool) → (q == p) ≡ b → Keeps (old.node q) (new.node q)
    at true e =
        subst (λ (i : ℕ). Keeps (old.node i) (new.node i)) (sym (eqb-true q p e))
        (does-keeps new act (old.node p) (new.node p) h.here)
    at false e =
        let same = h.others q (λ f. false≢true (sym e ∙ eq-eqb q p f)) in
        same-keeps (old.node q) (new.node q) (ap (λ (n : Node). n.list) same)
        (ap (λ (n : Node). n.log) same)

-- in each start of the service, every node keeps what it has accepted and what its log has
pub start-keeps_all : (old new : Service) → Starts old new → AllKeep old new
start-keeps_all old new h q = resumes-keeps new (old.node q) (new.node q) (h.1 q)
