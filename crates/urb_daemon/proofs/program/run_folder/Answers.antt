use Rattle.std.proofs.Common.{refl, sym, ◌∙◌}
use Rattle.urb_daemon.proofs.WrappedJournals.{resumes_ahead}
use Rattle.urb_daemon.proofs.program.run_folder.Goals as goal

pub returns : goal.returns
returns g c =
    let run = c.run_journals-journals in
    let count = sym c.args.journals.ok.0 ∙ c.requires.count in
    record {
      journals = c.args.journals.items;
      closed = run.result.0.items;
      told = run.new.console.is_told;
      end = run.result.1;
      before = _;
      count = count;
      nodes = c.requires.nodes;
      found = c.requires.found;
      ran = run.ensures.ran;
      resumes =
          resumes_ahead _ _ _ c.args.journals.items _ _ _ run.ensures.ran c.requires.found count
          (λ j honest. honest.clean) (λ j. refl);
      shows = c.report_end.ensures;
    }
