-- The names of other files that most proofs of this crate cite, passed on from one place. It
-- declares nothing.
pub use Rattle.std.proofs.Common.{Bool, Err, IfOk, IfSome, IsSomeAnd, List, None, Ok, OnErr, Option}
pub use Rattle.std.proofs.Common.{Result, Some, [], add-one, ap, append_assoc, arith, cond, drop}
pub use Rattle.std.proofs.Common.{drop-cons, false, get_or, inl, inr, length, nat_le, nat_lt, refl}
pub use Rattle.std.proofs.Common.{rules, slice_index, subst, suc, sym, take, true, zero, ℕ, ◌&&◌}
pub use Rattle.std.proofs.Common.{◌++◌, ◌+◌, ◌-◌, ◌<◌, ◌==◌, ◌^◌, ◌∙◌, ◌∷◌, ◌≡◌, ◌≢◌, ◌≤◌, ◌⊎◌}
pub use Rattle.byteorder.specs.Endian.{big_bytes, big_number}
pub use Rattle.std.proofs.KnownBytes.{Consumes-trans}
pub use Rattle.std.proofs.lemmas.Bool.{cases_lt, eqb-true, le-ltb, ltb-false}
pub use Rattle.std.proofs.lemmas.List.{length-drop, nil_from_length, take-append-drop, take_more}
pub use Rattle.std.proofs.lemmas.List.Concat.{flat_map-cons}
pub use Rattle.std.proofs.lemmas.Option.{cond_some, same_Some}
pub use Rattle.std.proofs.lemmas.Result.{err_from_is_err_and}
pub use Rattle.std.specs.Io.KnownBytes.{Consumes, IsAtEnd}
pub use Rattle.std.specs.List.{All, AllByRecursion, flat_map}
pub use Rattle.urb_client.specs.Listings.{IsEntry, entry_bytes, entry_head, listing_body}
pub use Rattle.urb_client.specs.Pages.{ListsPage}
pub use Rattle.urb_client.specs.Requests.{Asked, request_of}
pub use Rattle.urb_client.specs.Responses.{Accepted, Done, IsSaid, Listing, Refused, Said, frame}
pub use Rattle.urb_client.specs.Responses.{response_body, said_by}
pub use Rattle.urb_client.specs.Sessions.{Asks, Begins, Event, Fault, IsBroken, Says}
pub use Rattle.urb_client.specs.declared.format.TheConstants.{ENTRY_HEAD, LISTING_HEAD}
pub use Rattle.urb_client.specs.declared.format.TheConstants.{LONGEST_FRAME, LONGEST_REQUEST}
pub use Rattle.urb_client.specs.declared.format.TheConstants.{MOST_ENTRIES}
pub use Rattle.urb_client.specs.declared.sessions.Ended.TheVariants.{BadFrame, Closed}
pub use Rattle.urb_client.specs.declared.sessions.TheConstants.{MOST_FRAMES}
pub use Rattle.urb_client.specs.internal.ParsedResponses.{byte_at, number_at}
unfoldable pub use Rattle.urb_client.specs.internal.ParsedResponses.{entries_at, entry_at}
pub use Rattle.urb_client.specs.internal.ParsedResponses.{◌>>=◌}
pub use Rattle.urb_client.specs.internal.SessionPieces.{PartRead}
pub use Rattle.urb_names.specs.LabelsAndContents.{Content, Label}
