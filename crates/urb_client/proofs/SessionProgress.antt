-- A session so far: what was read, answered and written.
use Rattle.urb_client.proofs.Common.{Asked, Asks, BadFrame, Begins, Closed, Consumes, Err, Event}
use Rattle.urb_client.proofs.Common.{Fault, IfSome, IsAtEnd, IsBroken, IsSomeAnd, LONGEST_REQUEST}
use Rattle.urb_client.proofs.Common.{List, MOST_FRAMES, None, Ok, Option, PartRead, Refused, Result}
use Rattle.urb_client.proofs.Common.{Said, Says, Some, [], ap, append_assoc, frame, inl, inr}
use Rattle.urb_client.proofs.Common.{length, refl, request_of, subst, sym, ℕ, ◌++◌, ◌+◌, ◌<◌, ◌∙◌}
use Rattle.urb_client.proofs.Common.{◌∷◌, ◌≡◌, ◌≤◌}
use Rattle.std.proofs.Common.{append-nil, length-append}
use Rattle.std.specs.Io.KnownBytes.{Appends}
use Rattle.std.proofs.KnownBytes.{Appends-nil, Appends-trans}
use Rattle.urb_client.specs.declared.sessions.SessionFault.{SessionFault}
use Rattle.urb_client.specs.Responses.{encoding}
use Rattle.urb_client.specs.Sessions.{BreaksOff, Leaves, Meets, Replies, Served, TakesFrame}
use Rattle.urb_client.specs.Sessions.{WholeSession}
use Rattle.urb_client.specs.internal.SessionPieces.{Answers, GoesUnanswered, GoesUnwritten}
use Rattle.urb_client.specs.declared.full_read.ReadFailed.{ReadFailed}
use Rattle.urb_names.specs.declared.refusal.NoMemory.{NoMemory}
use Rattle.urb_client.specs.declared.sessions.SessionFault.TheVariants as fault

-- a whole frame is taken, and this holds for it
whole_taken : (P : Event → Type 0) (known left : Option (List ℕ)) (body : List ℕ) (event : Event)
    → Consumes known left (frame body) → 0 < length body → length body ≤ LONGEST_REQUEST
    → Says body event → P event
    → IfSome known (λ bytes. IsSomeAnd left (TakesFrame P bytes))
whole_taken P None left body event c some small is holds = tt
whole_taken P (Some bytes) None body event c some small is holds = absurd c
whole_taken P (Some bytes) (Some rest) body event c some small is holds =
    inl (event, (body, rest, some, small, c, is, refl), holds)

-- a broken frame is taken, and this holds for it
pub broken_taken : (P : Event → Type 0) (known left : Option (List ℕ)) (code : ℕ)
    → IfSome known (λ bytes. IsSomeAnd left (IsBroken bytes code)) → P (Fault code)
    → IfSome known (λ bytes. IsSomeAnd left (TakesFrame P bytes))
broken_taken P None left code b holds = tt
broken_taken P (Some bytes) None code b holds = absurd b
broken_taken P (Some bytes) (Some rest) code b holds = inr (code, b, holds)

-- a fault that leaves a writer as it was leaves its bytes as they were
pub unwritten : {W : Type 0} (contents : W → Option (List ℕ)) (cause : SessionFault) (old new : W)
    → GoesUnwritten cause old new → GoesUnwritten cause (contents old) (contents new)
unwritten {W} contents (fault.Read why) old new g = absurd g
unwritten {W} contents (fault.Write why) old new g = tt
unwritten {W} contents (fault.NoMemory why) old new g = ap contents g
unwritten {W} contents fault.TooMany old new g = absurd g

module _ {S : Type 0} (answers : S → Asked → Said → S → Type 0) where
  -- the part of the input that is known to be answered
  abbrev pub Going : Option (List ℕ) → Option (List ℕ) → S → S → Option (List ℕ) → Option (List ℕ)
      → Type 0
  Going from known old new before after =
      IfSome from (λ input. IsSomeAnd known
      (λ rest. Served answers input rest old new before after))

  -- the same, and `count` frames are answered
  abbrev pub GoingFor : ℕ → Option (List ℕ) → Option (List ℕ) → S → S → Option (List ℕ)
      → Option (List ℕ) → Type 0
  GoingFor count from known old new before after =
      IfSome from (λ input. IsSomeAnd known
      (λ rest. (served : Served answers input rest old new before after)
      × (length served.events ≡ count)))

  -- no frame has come yet
  pub no_frame_yet : (from : Option (List ℕ)) (old : S) (before : Option (List ℕ))
      → GoingFor 0 from from old old before before
  no_frame_yet None old before = tt
  no_frame_yet (Some input) old before = (
    record {
      events = [];
      output = [];
      begins = refl;
      replies = (refl, refl);
      written = Appends-nil before;
    },
    refl,
  )

  -- what is known after some frames, without their number
  pub going : (count : ℕ) (from known : Option (List ℕ)) (old new : S)
      (before after : Option (List ℕ)) → GoingFor count from known old new before after
      → Going from known old new before after
  going count None known old new before after p = tt
  going count (Some input) None old new before after p = absurd p
  going count (Some input) (Some bytes) old new before after p = p.0

  Begins_more : (bytes : List ℕ) (events : List Event) (rest body mid : List ℕ) (event : Event)
      → Begins bytes events rest → 0 < length body → length body ≤ LONGEST_REQUEST
      → rest ≡ frame body ++ mid → Says body event
      → Begins bytes (events ++ event ∷ []) mid
  Begins_more bytes [] rest body mid event b some small e s =
      (body, mid, some, small, b ∙ e, s, refl)
  Begins_more bytes (first ∷ events) rest body mid event b some small e s =
      (b.0, b.1, b.2, b.3, b.4, b.5, Begins_more b.1 events rest body mid event b.6 some small e s)

  Replies_asked : (old mid new : S) (events : List Event) (output : List ℕ) (asked : Asked)
      (said : Said) → Replies answers old events output mid → answers mid asked said new
      → Replies answers old (events ++ Asks asked ∷ []) (output ++ encoding said) new
  Replies_asked old mid new [] output asked said r a = (
    said,
    new,
    [],
    subst (λ (from : S). answers from asked said new) r.1 a,
    ap (λ (out : List ℕ). out ++ encoding said) r.0 ∙ sym (append-nil (encoding said)),
    (refl, refl),
  )
  Replies_asked old mid new (Asks first ∷ events) output asked said r a = (
    r.0,
    r.1,
    r.2 ++ encoding said,
    r.3,
    ap (λ (out : List ℕ). out ++ encoding said) r.4
        ∙ append_assoc (encoding r.0) r.2 (encoding said),
    Replies_asked r.1 mid new events r.2 asked said r.5 a,
  )
  Replies_asked old mid new (Fault code ∷ events) output asked said r a = (
    r.0 ++ encoding said,
    ap (λ (out : List ℕ). out ++ encoding said) r.1
        ∙ append_assoc (encoding (Refused 19 code)) r.0 (encoding said),
    Replies_asked old mid new events r.0 asked said r.2 a,
  )

  Replies_fault : (old new : S) (events : List Event) (output : List ℕ) (code : ℕ)
      → Replies answers old events output new
      → Replies answers old (events ++ Fault code ∷ []) (output ++ encoding (Refused 19 code)) new
  Replies_fault old new [] output code r = (
    [],
    ap (λ (out : List ℕ). out ++ encoding (Refused 19 code)) r.0
        ∙ sym (append-nil (encoding (Refused 19 code))),
    (refl, r.1),
  )
  Replies_fault old new (Asks first ∷ events) output code r = (
    r.0,
    r.1,
    r.2 ++ encoding (Refused 19 code),
    r.3,
    ap (λ (out : List ℕ). out ++ encoding (Refused 19 code)) r.4
        ∙ append_assoc (encoding r.0) r.2 (encoding (Refused 19 code)),
    Replies_fault r.1 new events r.2 code r.5,
  )
  Replies_fault old new (Fault first ∷ events) output code r = (
    r.0 ++ encoding (Refused 19 code),
    ap (λ (out : List ℕ). out ++ encoding (Refused 19 code)) r.1
        ∙ append_assoc (encoding (Refused 19 first)) r.0 (encoding (Refused 19 code)),
    Replies_fault old new events r.0 code r.2,
  )

  more : (input bytes rest : List ℕ) (old mid new : S) (before after later : Option (List ℕ))
      (body : List ℕ) (said : Said) (read : Result Asked ℕ) → request_of body ≡ read
      → Served answers input bytes old mid before after → bytes ≡ frame body ++ rest
      → 0 < length body → length body ≤ LONGEST_REQUEST → Answers answers mid read said new
      → Appends after later (encoding said)
      → Served answers input rest old new before later
  more input bytes rest old mid new before after later body said (Ok asked) is p c some small a w =
      record {
        events = p.events ++ Asks asked ∷ [];
        output = p.output ++ encoding said;
        begins = Begins_more input p.events bytes body rest (Asks asked) p.begins some small c is;
        replies = Replies_asked old mid new p.events p.output asked said p.replies a;
        written = Appends-trans _ _ _ _ _ p.written w;
      }
  more input bytes rest old mid new before after later body said (Err code) is p c some small a w =
      record {
        events = p.events ++ Fault code ∷ [];
        output = p.output ++ encoding said;
        begins = Begins_more input p.events bytes body rest (Fault code) p.begins some small c is;
        replies = rw (a.0, a.1) (Replies_fault old mid p.events p.output code p.replies);
        written = Appends-trans _ _ _ _ _ p.written w;
      }

  more_counted : (input bytes rest : List ℕ) (old mid new : S)
      (before after later : Option (List ℕ)) (body : List ℕ) (said : Said)
      (read : Result Asked ℕ) (is : request_of body ≡ read)
      (p : Served answers input bytes old mid before after) (c : bytes ≡ frame body ++ rest)
      (some : 0 < length body) (small : length body ≤ LONGEST_REQUEST)
      (a : Answers answers mid read said new) (w : Appends after later (encoding said))
      → length
      (more input bytes rest old mid new before after later body said read is p c some small a
      w).events ≡ length p.events + 1
  unfolding more
  more_counted input bytes rest old mid new before after later body said (Ok asked) is p c some
      small a w = length-append p.events (Asks asked ∷ [])
  more_counted input bytes rest old mid new before after later body said (Err code) is p c some
      small a w = length-append p.events (Fault code ∷ [])

  -- one more frame is answered
  pub one_more : (count : ℕ) (from : Option (List ℕ)) (old mid new : S)
      (before after later known left : Option (List ℕ)) (body : List ℕ) (said : Said)
      → GoingFor count from known old mid before after → Consumes known left (frame body)
      → 0 < length body
      → length body ≤ LONGEST_REQUEST → Answers answers mid (request_of body) said new
      → Appends after later (encoding said)
      → GoingFor (count + 1) from left old new before later
  one_more count None old mid new before after later known left body said p c some small a w = tt
  one_more count (Some input) old mid new before after later None left body said p c some small a
      w = absurd p
  one_more count (Some input) old mid new before after later
      (Some bytes) None body said p c some small a w = absurd c
  one_more count (Some input) old mid new before after later (Some bytes)
      (Some rest) body said p c some small a w = (
        more input bytes rest old mid new before after later body said
            (request_of body) refl p.0 c some small a w,
        more_counted input bytes rest old mid new before after later body said
            (request_of body) refl p.0 c some small a w ∙ ap (λ (n : ℕ). n + 1) p.1,
      )

  -- the input ends between two frames
  pub closes : (from : Option (List ℕ)) (old new : S) (before after known left : Option (List ℕ))
      → Going from known old new before after → Consumes known left [] → IsAtEnd left
      → IfSome from (λ input. IsSomeAnd left
      (λ rest. WholeSession answers input Closed rest old new before after))
  closes None old new before after known left p c e = tt
  closes (Some input) old new before after None left p c e = absurd p
  closes (Some input) old new before after (Some bytes) None p c e = absurd c
  closes (Some input) old new before after (Some bytes) (Some rest) p c e = record {
    events = p.events;
    output = p.output;
    reads = record {
      whole = p.events;
      last = [];
      rest = bytes;
      begins = p.begins;
      ends =
          (c ∙ e, refl, e);
      all = sym (append-nil p.events);
    };
    replies = p.replies;
    written = p.written;
  }

  -- no whole frame comes
  pub breaks : (from : Option (List ℕ)) (old new : S)
      (before after later known left : Option (List ℕ)) (code : ℕ)
      → Going from known old new before after
      → IfSome known (λ bytes. IsSomeAnd left (IsBroken bytes code))
      → Appends after later (encoding (Refused 19 code))
      → IfSome from (λ input. IsSomeAnd left
      (λ rest. WholeSession answers input BadFrame rest old new before later))
  breaks None old new before after later known left code p b w = tt
  breaks (Some input) old new before after later None left code p b w = absurd p
  breaks (Some input) old new before after later (Some bytes) None code p b w = absurd b
  breaks (Some input) old new before after later (Some bytes) (Some rest) code p b w = record {
    events = p.events ++ Fault code ∷ [];
    output = p.output ++ encoding (Refused 19 code);
    reads = record {
      whole = p.events;
      last = Fault code ∷ [];
      rest = bytes;
      begins =
          p.begins;
      ends = (code, b, refl);
      all = refl;
    };
    replies = Replies_fault old new p.events p.output code p.replies;
    written = Appends-trans _ _ _ _ _ p.written w;
  }

  read_met : (old new : S) (known left : Option (List ℕ)) (body : List ℕ) (said : Said)
      (read : Result Asked ℕ) → request_of body ≡ read → Consumes known left (frame body)
      → 0 < length body → length body ≤ LONGEST_REQUEST
      → Answers answers old read said new
      → IfSome known (λ bytes. IsSomeAnd left
      (TakesFrame (λ event. Meets answers old event new) bytes))
  read_met old new known left body said (Ok asked) is c some small a =
      whole_taken (λ event. Meets answers old event new) known left body
      (Asks asked) c some small is (said, a)
  read_met old new known left body said (Err code) is c some small a =
      whole_taken (λ event. Meets answers old event new) known left body
      (Fault code) c some small is a.1

  -- a whole frame is taken, and has its answer
  pub whole_met : (old new : S) (known left : Option (List ℕ)) (body : List ℕ) (said : Said)
      → Consumes known left (frame body) → 0 < length body → length body ≤ LONGEST_REQUEST
      → Answers answers old (request_of body) said new
      → IfSome known (λ bytes. IsSomeAnd left
      (TakesFrame (λ event. Meets answers old event new) bytes))
  whole_met old new known left body said =
      read_met old new known left body said (request_of body) refl

  module _ (refuses : S → Asked → S → Type 0) where
    -- the reader fails inside a frame
    pub read_fails : (from : Option (List ℕ)) (why : ReadFailed) (old new : S)
        (before after known left : Option (List ℕ)) → Going from known old new before after
        → PartRead known left
        → IfSome from (λ input. IsSomeAnd left
        (λ rest. BreaksOff answers refuses input (fault.Read why) rest old new before after))
    read_fails None why old new before after known left p t = tt
    read_fails (Some input) why old new before after None left p t = absurd p
    read_fails (Some input) why old new before after (Some bytes) None p t = absurd t
    read_fails (Some input) why old new before after (Some bytes) (Some rest) p t = (bytes, p, t)

    -- the most frames of a session came
    pub too_many : (from : Option (List ℕ)) (old new : S) (before after known : Option (List ℕ))
        → GoingFor MOST_FRAMES from known old new before after
        → IfSome from (λ input. IsSomeAnd known
        (λ rest. BreaksOff answers refuses input fault.TooMany rest old new before after))
    too_many None old new before after known p = tt
    too_many (Some input) old new before after None p = absurd p
    too_many (Some input) old new before after (Some bytes) p = p

    -- memory is refused for a frame
    pub not_answered : (from : Option (List ℕ)) (why : NoMemory) (old mid new : S)
        (before after known left : Option (List ℕ)) → Going from known old mid before after
        → IfSome known (λ bytes. IsSomeAnd left
        (TakesFrame (λ event. Leaves answers refuses mid event new) bytes))
        → IfSome from (λ input. IsSomeAnd left
        (λ rest. BreaksOff answers refuses input (fault.NoMemory why) rest old new before after))
    not_answered None why old mid new before after known left p t = tt
    not_answered (Some input) why old mid new before after None left p t = absurd p
    not_answered (Some input) why old mid new before after (Some bytes) None p t = absurd t
    not_answered (Some input) why old mid new before after (Some bytes) (Some rest) p t =
        (bytes, mid, p, t)

    met_leaves : (old new : S) (event : Event) → Meets answers old event new
        → Leaves answers refuses old event new
    met_leaves old new (Asks asked) m = inr (inl m)
    met_leaves old new (Fault code) m = m

    met_taken : (old new : S) (bytes rest : List ℕ)
        → TakesFrame (λ event. Meets answers old event new) bytes rest
        → TakesFrame (λ event. Leaves answers refuses old event new) bytes rest
    met_taken old new bytes rest (inl t) = inl (t.0, t.1, met_leaves old new t.0 t.2)
    met_taken old new bytes rest (inr t) = inr t

    -- an answer isn't written
    pub not_written : (from : Option (List ℕ)) (cause : SessionFault) (old mid new : S)
        (before after later known left : Option (List ℕ)) → Going from known old mid before after
        → IfSome known (λ bytes. IsSomeAnd left
        (TakesFrame (λ event. Meets answers mid event new) bytes))
        → GoesUnwritten cause after later
        → IfSome from (λ input. IsSomeAnd left
        (λ rest. BreaksOff answers refuses input cause rest old new before later))
    not_written None cause old mid new before after later known left p t w = tt
    not_written (Some input) cause old mid new before after later None left p t w = absurd p
    not_written (Some input) cause old mid new before after later (Some bytes) None p t w =
        absurd t
    not_written (Some input) (fault.Read why) old mid new before after later (Some bytes)
        (Some rest) p t w = absurd w
    not_written (Some input) fault.TooMany old mid new before after later (Some bytes)
        (Some rest) p t w = absurd w
    not_written (Some input) (fault.NoMemory why) old mid new before after later (Some bytes)
        (Some rest) p t w = (
          bytes,
          mid,
          subst (λ (out : Option (List ℕ)).
              Served answers input bytes old mid before out) (sym w) p,
          met_taken mid new bytes rest t,
        )
    not_written (Some input) (fault.Write why) old mid new before after later (Some bytes)
        (Some rest) p t w = (bytes, mid, p.events, p.output, p.begins, p.replies, t)

    read_refused : (old new : S) (known left : Option (List ℕ)) (body : List ℕ)
        (read : Result Asked ℕ) → request_of body ≡ read → Consumes known left (frame body)
        → 0 < length body → length body ≤ LONGEST_REQUEST
        → GoesUnanswered refuses old read new
        → IfSome known (λ bytes. IsSomeAnd left
        (TakesFrame (λ event. Leaves answers refuses old event new) bytes))
    read_refused old new known left body (Ok asked) is c some small (inl same) =
        whole_taken (λ event. Leaves answers refuses old event new) known left body
        (Asks asked) c some small is (inl same)
    read_refused old new known left body (Ok asked) is c some small (inr r) =
        whole_taken (λ event. Leaves answers refuses old event new) known left body
        (Asks asked) c some small is (inr (inr r))
    read_refused old new known left body (Err code) is c some small same =
        whole_taken (λ event. Leaves answers refuses old event new) known left body
        (Fault code) c some small is same

    -- a whole frame is taken, and memory is refused for it
    pub whole_refused : (old new : S) (known left : Option (List ℕ)) (body : List ℕ)
        → Consumes known left (frame body) → 0 < length body → length body ≤ LONGEST_REQUEST
        → GoesUnanswered refuses old (request_of body) new
        → IfSome known (λ bytes. IsSomeAnd left
        (TakesFrame (λ event. Leaves answers refuses old event new) bytes))
    whole_refused old new known left body =
        read_refused old new known left body (request_of body) refl
