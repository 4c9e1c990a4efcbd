use Rattle.urb_sqlite.proofs.node_file.NodeFileDisk.write_at.Goals as goal

pub returns-in-First-clause-frozen : goal.returns-in-First-clause-frozen
returns-in-First-clause-frozen g c = rw c.in-First.is λ is_frozen.
    let (failed, stays) = c.write_at.ensures.frozen is_frozen in (
      failed,
      record {
        frozen = stays.frozen;
        same = stays.same;
        clean = stays.clean;
        no_more =
            stays.no_more;
        no_fewer = stays.no_fewer;
      },
    )

pub returns-in-First-clause-mixed : goal.returns-in-First-clause-mixed
returns-in-First-clause-mixed g c = rw c.in-First.is c.write_at.ensures.mixed

pub returns-in-Second-clause-frozen : goal.returns-in-Second-clause-frozen
returns-in-Second-clause-frozen g c = rw c.in-Second.is λ is_frozen.
    let (failed, stays) = c.write_at-in-Second.ensures.frozen is_frozen in (
      failed,
      record {
        frozen = stays.frozen;
        same = stays.same;
        clean = stays.clean;
        no_more =
            stays.no_more;
        no_fewer = stays.no_fewer;
      },
    )

pub returns-in-Second-clause-mixed : goal.returns-in-Second-clause-mixed
returns-in-Second-clause-mixed g c = rw c.in-Second.is c.write_at-in-Second.ensures.mixed

pub returns-in-Third-clause-frozen : goal.returns-in-Third-clause-frozen
returns-in-Third-clause-frozen g c = rw c.in-Third.is λ is_frozen.
    let (failed, stays) = c.write_at-in-Third.ensures.frozen is_frozen in (
      failed,
      record {
        frozen = stays.frozen;
        same = stays.same;
        clean = stays.clean;
        no_more =
            stays.no_more;
        no_fewer = stays.no_fewer;
      },
    )

pub returns-in-Third-clause-mixed : goal.returns-in-Third-clause-mixed
returns-in-Third-clause-mixed g c = rw c.in-Third.is c.write_at-in-Third.ensures.mixed

pub returns-in-Fourth-clause-frozen : goal.returns-in-Fourth-clause-frozen
returns-in-Fourth-clause-frozen g c = rw c.in-Fourth.is λ is_frozen.
    let (failed, stays) = c.write_at-in-Fourth.ensures.frozen is_frozen in (
      failed,
      record {
        frozen = stays.frozen;
        same = stays.same;
        clean = stays.clean;
        no_more =
            stays.no_more;
        no_fewer = stays.no_fewer;
      },
    )

pub returns-in-Fourth-clause-mixed : goal.returns-in-Fourth-clause-mixed
returns-in-Fourth-clause-mixed g c = rw c.in-Fourth.is c.write_at-in-Fourth.ensures.mixed

pub returns-in-Fifth-clause-frozen : goal.returns-in-Fifth-clause-frozen
returns-in-Fifth-clause-frozen g c = rw c.in-Fifth.is λ is_frozen.
    let (failed, stays) = c.write_at-in-Fifth.ensures.frozen is_frozen in (
      failed,
      record {
        frozen = stays.frozen;
        same = stays.same;
        clean = stays.clean;
        no_more =
            stays.no_more;
        no_fewer = stays.no_fewer;
      },
    )

pub returns-in-Fifth-clause-mixed : goal.returns-in-Fifth-clause-mixed
returns-in-Fifth-clause-mixed g c = rw c.in-Fifth.is c.write_at-in-Fifth.ensures.mixed

pub returns-in-Sixth-clause-frozen : goal.returns-in-Sixth-clause-frozen
returns-in-Sixth-clause-frozen g c = rw c.in-Sixth.is λ is_frozen.
    let (failed, stays) = c.write_at-in-Sixth.ensures.frozen is_frozen in (
      failed,
      record {
        frozen = stays.frozen;
        same = stays.same;
        clean = stays.clean;
        no_more =
            stays.no_more;
        no_fewer = stays.no_fewer;
      },
    )

pub returns-in-Sixth-clause-mixed : goal.returns-in-Sixth-clause-mixed
returns-in-Sixth-clause-mixed g c = rw c.in-Sixth.is c.write_at-in-Sixth.ensures.mixed

pub returns-in-Seventh-clause-frozen : goal.returns-in-Seventh-clause-frozen
returns-in-Seventh-clause-frozen g c = rw c.in-Seventh.is λ is_frozen.
    let (failed, stays) = c.write_at-in-Seventh.ensures.frozen is_frozen in (
      failed,
      record {
        frozen = stays.frozen;
        same = stays.same;
        clean = stays.clean;
        no_more =
            stays.no_more;
        no_fewer = stays.no_fewer;
      },
    )

pub returns-in-Seventh-clause-mixed : goal.returns-in-Seventh-clause-mixed
returns-in-Seventh-clause-mixed g c = rw c.in-Seventh.is c.write_at-in-Seventh.ensures.mixed
