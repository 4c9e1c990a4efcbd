-- One node's part of each step: each function gives the reply, and the node after the event.
use Rattle.std.specs.List.{list_all, position_or_len}
use Rattle.std.specs.Prelude.{Bool, List, None, Option, Some, [], bytes_eq, false, find, flat_map}
use Rattle.std.specs.Prelude.{if◌then◌else◌, is_none, length, nat_lt, not, suc, true, ℕ, ◌&&◌, ◌++◌}
use Rattle.std.specs.Prelude.{◌-◌, ◌==◌, ◌||◌, ◌∷◌}
use Rattle.urb_names.specs.Acknowledgements.{acked, with_ack}
use Rattle.urb_names.specs.CarriedPackets.{Carried, due_of, says_certified, to_others, to_unheard}
use Rattle.urb_names.specs.CyclicOrder.{last_name, resent, rising}
use Rattle.urb_names.specs.Names.{has_name, name, same_message, same_name}
use Rattle.urb_names.specs.LabelsAndContents.{Content, Label, Limits}
use Rattle.urb_names.specs.Nodes.{majority_passes}
use Rattle.urb_names.specs.Pairs.{has_pair, is_numbered, message_of, next_number}
use Rattle.urb_names.specs.declared.flags.Flags.{Flags}
use Rattle.urb_names.specs.declared.limits.TheConstants.{MAX_PAYLOAD}
use Rattle.urb_names.specs.declared.refusal.Refusal.{Refusal}
use Rattle.urb_node.specs.Part.{Down, Node, Ready, State, Storing, own_acks, packet_from}
use Rattle.urb_node.specs.Replies.{Done, Drafted, Refused, Reply, Same, Sent, Stored, Up, WentDown}
use Rattle.urb_node.specs.Replies.{packets_in}
use Rattle.urb_node.specs.declared.cause.Cause.{Cause}
use Rattle.urb_node.specs.declared.answer.Answer.TheVariants.{Accepted, Again, Answered, Noted}
use Rattle.urb_stable.specs.Entries.{Entry, name_of}
use Rattle.urb_stable.specs.DeliveredLogs.{log}
use Rattle.urb_stable.specs.Records.{cert, pend}
use Rattle.urb_stable.specs.declared.record.Record.TheVariants.{Cert, Pend, PendCert}
use Rattle.urb_names.specs.declared.refusal.Refusal.TheVariants as refusal

-- whether the node is down
abbrev pub is_down : State → Bool
is_down Ready = false
is_down (Storing entry cause) = false
is_down (Down doubtful) = true

-- whether the node holds a draft
abbrev pub is_storing : State → Bool
is_storing Ready = false
is_storing (Storing entry cause) = true
is_storing (Down doubtful) = false

-- the position of the next record
abbrev pub next_position : Node → ℕ
next_position node = suc (length node.records)

-- the node holds a draft of this record, with its cause if there is one
abbrev pub drafts : Node → Entry → Option Cause → Reply × Node
drafts node entry cause =
    (Drafted (name_of entry) (next_position node), record node { state = Storing entry cause })

-- a refusal: the node stays as it is
abbrev pub refuses : Node → Refusal → Reply × Node
refuses node refusal = (Refused refusal, node)

-- A submit whose client number is new at this node. It must be its client's next number, and there
-- must be room for the message. The message is drafted under the node's next name, certified at
-- once if the node is alone.
abbrev pub submits_new : Limits → ℕ → Content → Node → Reply × Node
submits_new size p m node =
    if not (m.number == next_number m.client node.broadcast) then refuses node
    (refusal.Gap (next_number m.client node.broadcast))
    else (if not (nat_lt (length node.broadcast) size.cap) then refuses node refusal.Full
    else (let x = name p (suc (length node.broadcast)) in
    if size.n == 1 then drafts node (PendCert x m) None else drafts node (Pend x m) None))

-- A submit with the client number of the first message. The same payload is accepted under that
-- message's name, and any other payload is a conflict.
abbrev pub submits_again : ℕ → Content → Content → Node → Reply × Node
submits_again p m first node =
    if bytes_eq first.payload m.payload
    then (
      Same (Accepted (name p (suc
          (position_or_len (is_numbered m.client m.number) node.broadcast)))),
      node,
    )
    else refuses node refusal.Conflict

-- a submit, by the message with its client number, if there is one
abbrev pub submits_by_number : Limits → ℕ → Content → Option Content → Node → Reply × Node
submits_by_number size p m None node = submits_new size p m node
submits_by_number size p m (Some first) node = submits_again p m first node

-- a submit of this message
abbrev pub submits : Limits → ℕ → Content → Node → Reply × Node
submits size p m node =
    if is_down node.state then refuses node refusal.Down
    else (if is_storing node.state then refuses node refusal.Busy
    else (if nat_lt MAX_PAYLOAD (length m.payload) then refuses node refusal.TooLong
    else submits_by_number size p m (find (is_numbered m.client m.number) node.broadcast) node))

-- An arrival from q of a name that is not pending. The pair is drafted, certified at once if p and
-- q are a majority.
abbrev pub takes : Limits → ℕ → ℕ → Label → Content → Option Flags → Node → Reply × Node
takes size p q x m flags node =
    let cause = Some (packet_from q (says_certified flags)) in
    if majority_passes size.n (λ z. (z == p) || (z == q)) then drafts node
    (PendCert x m) cause else drafts node (Pend x m) cause

-- An arrival from q of a name that is pending and not certified. q is counted, and a certificate is
-- drafted if the counted nodes are a majority.
abbrev pub counts : Limits → ℕ → Label → Option Flags → Node → Reply × Node
counts size q x flags node =
    let after = record node { acks = with_ack node.acks x q } in
    if majority_passes size.n (acked after.acks x) then drafts after (Cert x)
    (Some (packet_from q (says_certified flags)))
    else (if acked node.acks x q then (Same (Again x), after) else (Same (Noted x), after))

-- the node once it heard that q has stored a certificate of a pending name, if these flags say so
abbrev pub hears : ℕ → Label → Option Flags → Node → Node
hears q x flags node =
    if says_certified flags then record node { heard = with_ack node.heard x q } else node

-- the answer of p to q: p has stored its certificate, and whether p heard that of q
abbrev pub reply_to : ℕ → ℕ → Label → Content → Node → Carried
reply_to p q x m node =
    record {
      source = p;
      target = q;
      name = x;
      message = m;
      flags =
          Some (record { certified = true; heard = acked node.heard x q });
    }

-- An arrival from q of a name that is certified. A packet is answered exactly if it is of version
-- two and doesn't say that the certificate was heard.
abbrev pub answers : ℕ → ℕ → Label → Content → Option Flags → Node → Reply × Node
answers p q x m None node = (Same (Again x), node)
answers p q x m (Some flags) node =
    if flags.heard then (Same (Again x), node) else
    (Same (Answered x (reply_to p q x m node ∷ [])), node)

-- a truthful packet comes from q to a ready node
abbrev pub arrives : Limits → ℕ → ℕ → Label → Content → Option Flags → Node → Reply × Node
arrives size p q x m flags node =
    if is_none (message_of (pend node.records) x) then takes size p q x m flags node
    else (let told = hears q x flags node in
    if not (has_name (cert node.records) x)
    then counts size q x flags told else answers p q x m flags told)

-- whether these flags say that the target's certificate was heard
abbrev pub says_heard : Option Flags → Bool
says_heard None = false
says_heard (Some flags) = flags.heard

-- the packets with which this node, the packet's target, answers the packet
abbrev pub answers_of : Limits → Carried → Node → List Carried
answers_of size packet node =
    packets_in (arrives size packet.target packet.source packet.name packet.message packet.flags
    node).0

-- the acknowledgements once the causing node, if there is one, is counted
abbrev pub with_cause : List (Label × ℕ) → Label → Option Cause → List (Label × ℕ)
with_cause acks x None = acks
with_cause acks x (Some cause) = with_ack acks x cause.source

-- The acknowledgements once a record is stored. For a pending one, the node itself and the causing
-- node are counted.
abbrev pub acks_after : ℕ → Entry → Option Cause → List (Label × ℕ) → List (Label × ℕ)
acks_after p (Pend x m) cause acks = with_cause (with_ack acks x p) x cause
acks_after p (PendCert x m) cause acks = with_cause (with_ack acks x p) x cause
acks_after p (Cert x) cause acks = acks

-- the source of the packet that caused a draft, if that packet reported a certificate
abbrev pub heard_of : Option Cause → Option ℕ
heard_of None = None
heard_of (Some cause) = if cause.certified then Some cause.source else None

-- the certificates heard, with that of this node if there is one
abbrev pub with_heard : List (Label × ℕ) → Label → Option ℕ → List (Label × ℕ)
with_heard heard x None = heard
with_heard heard x (Some q) = with_ack heard x q

-- The certificates heard once a record is stored. For a pending one, that includes the certificate
-- that came with the packet that caused it.
abbrev pub heard_after : Entry → Option Cause → List (Label × ℕ) → List (Label × ℕ)
heard_after (Pend x m) cause heard = with_heard heard x (heard_of cause)
heard_after (PendCert x m) cause heard = with_heard heard x (heard_of cause)
heard_after (Cert x) cause heard = heard

-- the messages broadcast once a record is stored: a pending record of the node's own is a broadcast
abbrev pub broadcast_after : ℕ → Entry → List Content → List Content
broadcast_after p (Pend x m) messages = if x.sender == p then messages ++ m ∷ [] else messages
broadcast_after p (PendCert x m) messages = if x.sender == p then messages ++ m ∷ [] else messages
broadcast_after p (Cert x) messages = messages

-- The packets of a stored record. For a pending one there is a packet to each other node, which
-- says whether the record is a certificate too. If the packet that caused it reported a
-- certificate, the packet to its source says that this was heard.
abbrev pub packets_of : ℕ → ℕ → Entry → Option Cause → List Carried
packets_of n p (Pend x m) cause = to_others n p false (heard_of cause) (x, m)
packets_of n p (PendCert x m) cause = to_others n p true (heard_of cause) (x, m)
packets_of n p (Cert x) cause = []

-- whether the record is a pending one of the node's own
abbrev pub is_accepted : ℕ → Entry → Bool
is_accepted p (Pend x m) = x.sender == p
is_accepted p (PendCert x m) = x.sender == p
is_accepted p (Cert x) = false

-- the effect reported when this record is stored
abbrev pub done : ℕ → ℕ → Entry → Option Cause → Node → Done
done n p entry cause node =
    record {
      accepted = is_accepted p entry;
      name = name_of entry;
      sent = packets_of n p entry cause;
      released = length (log (node.records ++ entry ∷ [])) - length (log node.records);
    }

-- The node once its held record is stored. It is ready, and the record is the last of its records.
-- Its acknowledgements, certificates heard and broadcasts are those after the record.
abbrev pub keeps_record : ℕ → Entry → Option Cause → Node → Node
keeps_record p entry cause node =
    record {
      records = node.records ++ entry ∷ [];
      state = Ready;
      acks = acks_after p entry cause node.acks;
      heard = heard_after entry cause node.heard;
      cursor = node.cursor;
      broadcast = broadcast_after p entry node.broadcast;
    }

-- whether two records are the same
abbrev pub same_record : Entry → Entry → Bool
same_record (Pend x m) (Pend y o) = same_name x y && same_message m o
same_record (Pend x m) (PendCert y o) = false
same_record (Pend x m) (Cert y) = false
same_record (PendCert x m) (Pend y o) = false
same_record (PendCert x m) (PendCert y o) = same_name x y && same_message m o
same_record (PendCert x m) (Cert y) = false
same_record (Cert x) (Pend y o) = false
same_record (Cert x) (PendCert y o) = false
same_record (Cert x) (Cert y) = same_name x y

-- A receipt for this record at this position. It is accepted if it is the held draft's. Otherwise
-- it is refused: as Down if the node is down, and else as Stale.
abbrev pub commits : ℕ → ℕ → ℕ → Entry → Node → State → Reply × Node
commits n p position entry node Ready = refuses node refusal.Stale
commits n p position entry node (Storing held cause) =
    if (position == next_position node) && same_record entry held
    then (Stored (done n p held cause node), keeps_record p held cause node)
    else refuses node refusal.Stale
commits n p position entry node (Down doubtful) = refuses node refusal.Down

-- the record in doubt once the node is down
abbrev pub doubt : State → Option Entry
doubt Ready = None
doubt (Storing entry cause) = Some entry
doubt (Down doubtful) = doubtful

-- the node loses what it has counted and heard, and a record that it holds becomes doubtful
abbrev pub goes_down : ℕ → Node → Reply × Node
goes_down p node =
    (WentDown p, record node { state = Down (doubt node.state); acks = []; heard = [] })

-- the store of the held record failed, and the node goes down; this is refused if the node holds no
-- draft
abbrev pub fails : ℕ → Node → State → Reply × Node
fails p node Ready = refuses node refusal.Stale
fails p node (Storing entry cause) = goes_down p node
fails p node (Down doubtful) = refuses node refusal.Down

-- the node goes down; this is refused if it is down already
abbrev pub crashes : ℕ → Node → Reply × Node
crashes p node = if is_down node.state then refuses node refusal.Down else goes_down p node

-- whether two lists have the same pairs
abbrev pub same_pairs : List (Label × Content) → List (Label × Content) → Bool
same_pairs xs ys =
    list_all (λ pair. has_pair ys pair.0 pair.1) xs
    && list_all (λ pair. has_pair xs pair.0 pair.1) ys

-- whether two lists have the same names
abbrev pub same_names : List Label → List Label → Bool
same_names xs ys = list_all (has_name ys) xs && list_all (has_name xs) ys

-- whether two lists are the same list of names
abbrev pub same_list : List Label → List Label → Bool
same_list [] [] = true
same_list [] (y ∷ ys) = false
same_list (x ∷ xs) [] = false
same_list (x ∷ xs) (y ∷ ys) = same_name x y && same_list xs ys

-- whether an image has exactly these pairs, certified names, log and number of records
abbrev pub tells : List Entry → List (Label × Content) → List Label → List Label → ℕ → Bool
tells image pairs certified delivered count =
    same_pairs (pend image) pairs && (same_names (cert image) certified
    && (same_list (log image) delivered && (length image == count)))

-- whether an image says what the records say
abbrev pub says : List Entry → List Entry → Bool
says image records = tells image (pend records) (cert records) (log records) (length records)

-- the node is ready again, with these records
abbrev pub comes_up : ℕ → List Entry → List Content → Reply × Node
comes_up p records messages = (
  Up p,
  record {
    records = records;
    state = Ready;
    acks = own_acks p records;
    heard =
        [];
    cursor = None;
    broadcast = messages;
  },
)

-- The image must be that of the stored records, or of these followed by the doubtful one, which
-- then counts as stored.
abbrev pub restarts_with : ℕ → List Entry → Node → Option Entry → Reply × Node
restarts_with p image node None =
    if says image node.records then comes_up p node.records node.broadcast else refuses node
    refusal.BadImage
restarts_with p image node (Some entry) =
    if says image node.records then comes_up p node.records node.broadcast
    else (if says image (node.records ++ entry ∷ []) then comes_up p (node.records ++ entry ∷ [])
    (broadcast_after p entry node.broadcast)
    else refuses node refusal.BadImage)

-- a restart with this image
abbrev pub restarts : ℕ → List Entry → Node → State → Reply × Node
restarts p image node Ready = refuses node refusal.NotDown
restarts p image node (Storing entry cause) = refuses node refusal.NotDown
restarts p image node (Down doubtful) = restarts_with p image node doubtful

-- the pairs that a tick resends: the pending pairs that are due, in cyclic order
abbrev pub due : ℕ → ℕ → Node → List (Label × Content)
due n p node = resent node.cursor (due_of n p node.heard (rising (pend node.records)))

-- the pairs of a tick go to each other node whose certificate was not heard, and the cursor becomes
-- the last of their names
abbrev pub resends : ℕ → ℕ → Node → Reply × Node
resends n p node = (
  Sent (flat_map (to_unheard n p (cert node.records) node.heard) (due n p node)),
  record node { cursor = last_name node.cursor (due n p node) },
)

-- a tick: it is refused if the node is down or holds a draft; otherwise the node resends
abbrev pub ticks : ℕ → ℕ → Node → Reply × Node
ticks n p node =
    if is_down node.state then refuses node refusal.Down
    else (if is_storing node.state then refuses node refusal.Busy
    else resends n p node)
