-- The command after arguments and subcommands are added to it.
use Rattle.urb_options.proofs.Common.{App, ap, app_of, ap₂, false, ◌||◌, ◌∙◌, ◌≡◌}
use Rattle.clap.specs.Words.{AddsArg, AddsSubcommand, Rule, rule_of, with_rule, with_subcommand}
use Rattle.clap.specs.declared.builder.arg.Arg.{Arg}
use Rattle.clap.specs.declared.builder.command.Command.{Command}
use Rattle.clap.specs.declared.builder.command.Command.TheViews.{out-Command}

-- for its parser the command is this one, and no argument belongs to all subcommands
abbrev pub IsMade : Command → App → Type 0
IsMade made app = (app_of made ≡ app) × ((out-Command made).has_globals ≡ false)

-- an argument that is added to a command adds its rule to what the parser sees
pub adds : (old new : Command) (arg : Arg) (app : App) (rule : Rule) → AddsArg old arg new
    → IsMade old app → rule_of arg ≡ rule → arg.global ≡ false → IsMade new (with_rule app rule)
adds old new arg app rule added made is own = (
  added.shape own ∙ ap₂ with_rule made.0 is,
  added.globals ∙ ap₂ (λ x y. x || y) made.1 own,
)

-- a subcommand that is added to a command is added to what the parser sees
pub adds_below : (old sub new : Command) (app below : App) → AddsSubcommand old sub new
    → IsMade old app → IsMade sub below → IsMade new (with_subcommand app below.top)
adds_below old sub new app below added made is = (
  added.shape is.1 ∙ ap₂ with_subcommand made.0 (ap (λ (a : App). a.top) is.0),
  added.globals ∙ ap₂ (λ x y. x || y) made.1 is.1,
)
