-- The names of other files that most proofs of this crate cite, passed on from one place. It
-- declares nothing.
pub use Rattle.std.proofs.Common.{Bool, Err, IfErr, IfOk, List, MatchResult, None, Ok, Option}
pub use Rattle.std.proofs.Common.{Result, Some, [], add-one, ap, append_assoc, arith, drop}
pub use Rattle.std.proofs.Common.{drop-cons, get_or, if◌then◌else◌, inl, inr, is_ok, length, refl}
pub use Rattle.std.proofs.Common.{rules, slice_index, subst, suc, sym, true, zero, ℕ, ◌%◌, ◌&&◌}
pub use Rattle.std.proofs.Common.{◌++◌, ◌+◌, ◌/◌, ◌<◌, ◌==◌, ◌∙◌, ◌∷◌, ◌≡◌, ◌⊎◌}
pub use Rattle.hex.specs.Hex.{IsBytes}
pub use Rattle.std.proofs.lemmas.List.Concat.{flat_map-cons}
pub use Rattle.std.proofs.lemmas.Result.{err_from_is_err_and}
pub use Rattle.std.specs.List.{flat_map}
pub use Rattle.urb_cli.specs.Asking.{AsksEach, ShowsAnswer}
pub use Rattle.urb_cli.specs.Calls.{Fails, Steps}
pub use Rattle.urb_cli.specs.ClientOutput.{shown_by}
pub use Rattle.urb_cli.specs.EntryForms.{form_line}
pub use Rattle.urb_cli.specs.Following.{Follows}
pub use Rattle.urb_cli.specs.Publishing.{IsPublished}
pub use Rattle.urb_cli.specs.declared.client.call_fault.CallFault.{CallFault}
pub use Rattle.urb_cli.specs.declared.client.printed.Printed.{Printed}
pub use Rattle.urb_cli.specs.declared.client.stream_fault.StreamFault.{StreamFault}
pub use Rattle.urb_cli.specs.internal.Following.{Goes}
pub use Rattle.urb_client.specs.Requests.{Asked, asked_by}
pub use Rattle.urb_client.specs.Responses.{Accepted, Done, Listing, Refused, Said}
pub use Rattle.urb_names.specs.LabelsAndContents.{Content, Label}
pub use Rattle.urb_options.specs.Addresses.{Address, address_of}
