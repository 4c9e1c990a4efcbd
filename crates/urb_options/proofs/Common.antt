-- The names of other files that most proofs of this crate cite, passed on from one place. It
-- declares nothing.
pub use Rattle.std.proofs.Common.{Bool, Err, List, None, Ok, Option, Result, Some, [], ap, ap₂}
pub use Rattle.std.proofs.Common.{arith, codes, cond, false, length, nat_le, nat_lt}
pub use Rattle.std.proofs.Common.{option_and_then, refl, rules, true, ℕ, ◌&&◌, ◌<◌, ◌^◌, ◌||◌, ◌∙◌}
pub use Rattle.std.proofs.Common.{◌∷◌, ◌≡◌, ◌≤◌}
pub use Rattle.clap.specs.Words.{App, app_of, found_of, is_simple_and_free, new_app}
pub use Rattle.std.proofs.lemmas.Bool.{and_parts}
pub use Rattle.std.proofs.lemmas.Result.{IfOk-weaker}
pub use Rattle.std.specs.Str.Parse.{ParsesUnsigned}
pub use Rattle.urb_options.specs.CommandLine.{client_app, urbd_app}
