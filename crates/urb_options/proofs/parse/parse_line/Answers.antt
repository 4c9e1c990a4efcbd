use Rattle.std.proofs.Common.{◌≡◌, ◌∙◌, ap, sym, subst, map, inl, inr, refl, None, []}
use Rattle.std.proofs.Common.{option_map}
use Rattle.std.proofs.lemmas.Bool.{and_parts}
use Rattle.clap.specs.Faults.{is_free_app}
use Rattle.clap.specs.Words.{App, HasKind, HasMatchesOf, app_of, is_simple, is_simple_and_free}
use Rattle.clap.specs.Words.{fault_of, kind_of, subcommand_of, subcommand_rows_of}
use Rattle.clap.specs.declared.error.kind.ErrorKind.TheVariants.{OutOfMemory}
use Rattle.urb_options.specs.CommandLine.{urbd_app, faults_of}
use Rattle.urb_options.specs.Tasks.{task_named, task_of}
use Rattle.urb_options.proofs.ParserPromise.{urbd_app-free}
use Rattle.urb_options.proofs.parse.parse_line.Goals as goal

pub returns-in_default-clause-refused : goal.returns-in_default-clause-refused
returns-in_default-clause-refused g c =
    inl (OutOfMemory, inl refl, inl c.report_fault.ensures)

pub returns-in-Some-clause-taken : goal.returns-in-Some-clause-taken
returns-in-Some-clause-taken g c =
    let is : app_of c.in-Ok.command ≡ urbd_app = c.in-Ok.ensures in
    ap (λ (a : App). fault_of a (map g.S.AsStr.text c.args.words.now)) (sym is)
    ∙ c.in-Ok-try_get_matches_from.ensures.kinds (ap is_simple_and_free is ∙ urbd_app-free)

pub returns-in-Some-clause-asked : goal.returns-in-Some-clause-asked
returns-in-Some-clause-asked g c =
    let is : app_of c.in-Ok.command ≡ urbd_app = c.in-Ok.ensures in
    let words = map g.S.AsStr.text c.args.words.now in
    let simple = (and_parts (is_simple urbd_app) (is_free_app urbd_app) urbd_app-free).0 in
    let met =
    subst (λ (a : App). HasMatchesOf a words c.in-Ok-try_get_matches_from.matches) is
    c.in-Ok-try_get_matches_from.ensures.matches in
    ap task_named (sym (met simple).1) ∙ sym c.read_matches.ensures
    ∙ ap (option_map task_of) c.in-Some.is

pub returns-in-Ok-try_get_matches_from-clause-refused :
    goal.returns-in-Ok-try_get_matches_from-clause-refused
returns-in-Ok-try_get_matches_from-clause-refused g c =
    let is : app_of c.in-Ok.command ≡ urbd_app = c.in-Ok.ensures in
    let words = map g.S.AsStr.text c.args.words.now in
    let none : faults_of words ≡ [] =
    ap (λ (a : App). fault_of a words) (sym is)
    ∙ c.in-Ok-try_get_matches_from.ensures.kinds (ap is_simple_and_free is ∙ urbd_app-free) in
    let simple = (and_parts (is_simple urbd_app) (is_free_app urbd_app) urbd_app-free).0 in
    let met =
    subst (λ (a : App). HasMatchesOf a words c.in-Ok-try_get_matches_from.matches) is
    c.in-Ok-try_get_matches_from.ensures.matches in
    let unasked : task_named (subcommand_of urbd_app words) ≡ None =
    ap task_named (sym (met simple).1) ∙ sym c.read_matches.ensures
    ∙ ap (option_map task_of) c.in-None.is in
    elim c.report_mistake.ensures [
      | inl one ↦ inl (OutOfMemory, inl refl, inl one)
      | inr three ↦ inr ((none, unasked), three)
    ]

pub returns-clause-refused : goal.returns-clause-refused
returns-clause-refused g c =
    let is : app_of c.in-Ok.command ≡ urbd_app = c.in-Ok.ensures in
    let told : HasKind (fault_of urbd_app (map g.S.AsStr.text c.args.words.now)) c.in-Err.error =
    subst (λ (a : App). HasKind (fault_of a (map g.S.AsStr.text c.args.words.now)) c.in-Err.error)
    is
    (c.in-Err.ensures.kinds (ap is_simple_and_free is ∙ urbd_app-free)) in
    inl (kind_of c.in-Err.error, told, c.report_parser_error.ensures)
