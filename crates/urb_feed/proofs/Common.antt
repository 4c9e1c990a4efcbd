-- The names of other files that most proofs of this crate cite, passed on from one place. It
-- declares nothing.
pub use Rattle.std.proofs.Common.{Bool, List, None, Option, Some, [], ap, append-nil, arith, cond}
pub use Rattle.std.proofs.Common.{eq-eqb, false, flat_map, inl, inr, length, lt-ltb, map, max}
pub use Rattle.std.proofs.Common.{nat_le, nat_lt, ne_eqb, not, refl, rules, subst, suc, sym, take}
pub use Rattle.std.proofs.Common.{true, unwrap_or, zero, ℕ, ◌&&◌, ◌*◌, ◌++◌, ◌+◌, ◌-◌, ◌<◌, ◌==◌}
pub use Rattle.std.proofs.Common.{◌∙◌, ◌∷◌, ◌≡◌, ◌≤◌, ◌⊎◌}
pub use Rattle.std.proofs.lemmas.Bool.{and_from, and_left, and_right, cases_lt, cond-true, le-ltb}
pub use Rattle.std.proofs.lemmas.Bool.{lt-leb}
pub use Rattle.std.proofs.lemmas.List.{length-append}
pub use Rattle.urb_feed.specs.Feeds.{IsPortion, greatest}
pub use Rattle.urb_feed.specs.MissingNames.{lacks, needed, needed_from, needed_of, offer, offers}
pub use Rattle.urb_feed.specs.internal.SenderRows.{IsRow, LacksNoneBelow, LacksNoneUpTo}
pub use Rattle.urb_group.specs.GroupViews.{GroupView, Shows}
pub use Rattle.urb_names.proofs.Places.{numbers_more}
pub use Rattle.urb_names.specs.LabelsAndContents.{Label, Limits}
pub use Rattle.urb_names.specs.Names.{has_name, name, names}
pub use Rattle.urb_names.specs.Nodes.{is_node, numbers_from}
pub use Rattle.urb_names.specs.Release.{part_of}
pub use Rattle.urb_world.specs.World.{World, stored}
