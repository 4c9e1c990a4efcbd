use Rattle.urb_options.proofs.Common.{ParsesUnsigned, found_of, ◌∙◌}
use Rattle.std.specs.Str.Parse.{ExplainsUnsignedError, HasUnsignedDigitsIfOk}
use Rattle.urb_options.proofs.NumbersRead.{number_found}
use Rattle.urb_options.proofs.values.number.Goals as goal

pub returns-clause-value : goal.returns-clause-value
returns-clause-value c =
    c.keep_in_range.ensures.value
    ∙ number_found (λ bs r. ParsesUnsigned 32 10 bs r × ExplainsUnsignedError 10 bs r
    × HasUnsignedDigitsIfOk bs r) c.args.low c.args.high
    (found_of c.args.found.now) c.args.name.now
    c.get_one.result c.get_one.ensures.none c.get_one.ensures.value
    (λ u x g. g.0) c.ranges.high.fits
