use Rattle.urb_sqlite.proofs.node_file.NodeFileDisk.set_len.Goals as goal

pub returns-in-First-clause-frozen : goal.returns-in-First-clause-frozen
returns-in-First-clause-frozen g c = rw c.in-First.is λ is_frozen.
    let (failed, stays) = c.set_len.ensures.frozen is_frozen in (
      failed,
      record {
        frozen = stays.frozen;
        same = stays.same;
        clean = stays.clean;
        no_more =
            stays.no_more;
        no_fewer = stays.no_fewer;
      },
    )

pub returns-in-Second-clause-frozen : goal.returns-in-Second-clause-frozen
returns-in-Second-clause-frozen g c = rw c.in-Second.is λ is_frozen.
    let (failed, stays) = c.set_len-in-Second.ensures.frozen is_frozen in (
      failed,
      record {
        frozen = stays.frozen;
        same = stays.same;
        clean = stays.clean;
        no_more =
            stays.no_more;
        no_fewer = stays.no_fewer;
      },
    )

pub returns-in-Third-clause-frozen : goal.returns-in-Third-clause-frozen
returns-in-Third-clause-frozen g c = rw c.in-Third.is λ is_frozen.
    let (failed, stays) = c.set_len-in-Third.ensures.frozen is_frozen in (
      failed,
      record {
        frozen = stays.frozen;
        same = stays.same;
        clean = stays.clean;
        no_more =
            stays.no_more;
        no_fewer = stays.no_fewer;
      },
    )

pub returns-in-Fourth-clause-frozen : goal.returns-in-Fourth-clause-frozen
returns-in-Fourth-clause-frozen g c = rw c.in-Fourth.is λ is_frozen.
    let (failed, stays) = c.set_len-in-Fourth.ensures.frozen is_frozen in (
      failed,
      record {
        frozen = stays.frozen;
        same = stays.same;
        clean = stays.clean;
        no_more =
            stays.no_more;
        no_fewer = stays.no_fewer;
      },
    )

pub returns-in-Fifth-clause-frozen : goal.returns-in-Fifth-clause-frozen
returns-in-Fifth-clause-frozen g c = rw c.in-Fifth.is λ is_frozen.
    let (failed, stays) = c.set_len-in-Fifth.ensures.frozen is_frozen in (
      failed,
      record {
        frozen = stays.frozen;
        same = stays.same;
        clean = stays.clean;
        no_more =
            stays.no_more;
        no_fewer = stays.no_fewer;
      },
    )

pub returns-in-Sixth-clause-frozen : goal.returns-in-Sixth-clause-frozen
returns-in-Sixth-clause-frozen g c = rw c.in-Sixth.is λ is_frozen.
    let (failed, stays) = c.set_len-in-Sixth.ensures.frozen is_frozen in (
      failed,
      record {
        frozen = stays.frozen;
        same = stays.same;
        clean = stays.clean;
        no_more =
            stays.no_more;
        no_fewer = stays.no_fewer;
      },
    )

pub returns-in-Seventh-clause-frozen : goal.returns-in-Seventh-clause-frozen
returns-in-Seventh-clause-frozen g c = rw c.in-Seventh.is λ is_frozen.
    let (failed, stays) = c.set_len-in-Seventh.ensures.frozen is_frozen in (
      failed,
      record {
        frozen = stays.frozen;
        same = stays.same;
        clean = stays.clean;
        no_more =
            stays.no_more;
        no_fewer = stays.no_fewer;
      },
    )
