-- What the earlier records of an image say about each record, also during the pass over the image.
use Rattle.std.specs.Prelude.{List, None, Option, Some, count_by, length, slice_get, take, ℕ, ◌==◌}
use Rattle.std.specs.Prelude.{◌≡◌}
use Rattle.std.specs.BTreeMap as tree
use Rattle.std.specs.BTreeSet as set
use Rattle.std.specs.declared.cmp.Ordering.{Ordering}
use Rattle.urb_names.specs.Names.{has_name}
use Rattle.urb_names.specs.LabelsAndContents.{Content, Label}
use Rattle.urb_names.specs.Pairs.{own}
use Rattle.urb_names.specs.contracts.client.ClientIdOrd.TheImpl as client_order
use Rattle.urb_stable.specs.Entries.{Entry, name_of}
use Rattle.urb_stable.specs.internal.Indexes.{by_name}
use Rattle.urb_stable.specs.Records.{cert, pend}
use Rattle.urb_stable.specs.declared.earlier_records.Before.{Before}
use Rattle.urb_stable.specs.declared.earlier_records.Counts.{Counts}
use Rattle.urb_stable.specs.declared.earlier_records.Pass.{Pass}
use Rattle.urb_stable.specs.declared.record.Record.TheVariants.{Cert, Pend, PendCert}

-- the order of clients
abbrev pub by_client : ℕ → ℕ → Ordering
by_client = (client_order.ghosts).cmp

-- how many of the messages come from this client
abbrev pub client_count : ℕ → List Content → ℕ
client_count client messages = count_by (λ m. m.client == client) messages

-- how many of the messages come from the client of this record's message; 0 if it has no message
abbrev pub same_client : Entry → List Content → ℕ
same_client (Pend x m) messages = client_count m.client messages
same_client (PendCert x m) messages = client_count m.client messages
same_client (Cert x) messages = 0

-- What the earlier records of node p's image say about a record. They say whether its name is
-- certified, the number of p's own messages, and how many of those come from its client.
pub record IsBefore (p : ℕ) (earlier : List Entry) (r : Entry) (before : Before) : Type 0 where
  pub names : before.certified ≡ has_name (cert earlier) (name_of r)
  pub messages : before.own ≡ length (own p (pend earlier))
  pub clients : before.of_client ≡ same_client r (own p (pend earlier))

-- For each of the first n records of node p's image, the list holds what the earlier records say
-- about it.
pub record AreBefore (p : ℕ) (image : List Entry) (n : ℕ) (told : List Before) : Type 0 where
  pub size : length told ≡ n
  pub each : (k : ℕ) (r : Entry) (before : Before) → slice_get image k ≡ Some r
      → slice_get told k ≡ Some before → IsBefore p (take k image) r before

-- the set contains exactly these names
abbrev pub IsSetOf : List Label → set.BTreeSet Label → Type 0
IsSetOf names certified = (x : Label) → set.contains by_name certified x ≡ has_name names x

-- the number that was found, or 0
abbrev pub number_found : Option ℕ → ℕ
number_found None = 0
number_found (Some k) = k

-- the counts are those of the messages, in total and for each client
pub record IsCount {A : Type 0} (messages : List Content) (counts : Counts A) : Type 0 where
  pub total : counts.own ≡ length messages
  pub each : (client : ℕ) → number_found (tree.get by_client counts.clients client)
      ≡ client_count client messages

-- the pass has gone over the first n records of node p's image
pub record HasTold {A : Type 0} (p : ℕ) (image : List Entry) (n : ℕ) (pass : Pass A) : Type 0 where
  pub names : IsSetOf (cert (take n image)) pass.certified
  pub counts : IsCount (own p (pend (take n image))) pass.counts
  pub told : AreBefore p image n pass.told.items
