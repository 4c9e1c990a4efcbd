use Rattle.urb_sqlite.proofs.Common.{Entry, HasCleanDisk, Held, IfOk-weaker, LeavesOnly, List, []}
use Rattle.urb_sqlite.proofs.Common.{file_state, subst, sym, ∥∥₁_map, ◌++◌, ◌∷◌, ◌≡◌, ◌⊎◌}
use Rattle.urb_sqlite.specs.ReopenedJournals.{FindsWhatIsLeft}
use Rattle.urb_sqlite.proofs.JournalStops.{both_ok, contents_again, crashed, found_again}
use Rattle.urb_sqlite.proofs.JournalStops.{honest_again, one_again, same_again, store_was_clean}
use Rattle.urb_sqlite.proofs.journal_stop.SqlStable+FileStore+D.stop_and_open.Goals as goal

pub returns : goal.returns
returns g c =
    IfOk-weaker c.open_files.result _ _ (λ again both.
    let kept : HasCleanDisk (file_state again.conn) → (records : List Entry)
    → FindsWhatIsLeft (file_state c.args.self.conn) (file_state again.conn)
    (λ left. left ≡ records) =
    λ clean records leaves.
    let fell =
    crashed g.D.Disk c.into_store.result c.close-log.result.log c.close-log.result.db
    c.crash.new.self c.crash-2.new.self c.close-log.ensures
    c.crash.ensures.clean c.crash-2.ensures.clean c.crash.ensures.left c.crash-2.ensures.left
    (both.0 clean) in
    let got =
    found_again c.into_file_connection.result c.into_store.result _
    (file_state again.conn) fell.0 fell.1 c.into_store.ensures.numbered
    c.into_store.ensures.sound
    c.into_store.ensures.quiet.outcomes (both.1.stood clean) (λ left. left ≡ records)
    (subst (λ (conn : Held _). LeavesOnly (file_state conn) (λ left. left ≡ records))
    (sym c.into_file_connection.ensures) leaves) in (
      honest_again (file_state again.conn) clean (∥∥₁_map got (λ x. x.0)),
      same_again _ records (∥∥₁_map got (λ x. x.1)),
    ) in
    let found : HasCleanDisk (file_state again.conn) → (records : List Entry) (r : Entry)
    → FindsWhatIsLeft (file_state c.args.self.conn) (file_state again.conn)
    (λ left. (left ≡ records) ⊎ (left ≡ records ++ r ∷ [])) =
    λ clean records r leaves.
    let fell =
    crashed g.D.Disk c.into_store.result c.close-log.result.log c.close-log.result.db
    c.crash.new.self c.crash-2.new.self c.close-log.ensures
    c.crash.ensures.clean c.crash-2.ensures.clean c.crash.ensures.left c.crash-2.ensures.left
    (both.0 clean) in
    let got =
    found_again c.into_file_connection.result c.into_store.result _
    (file_state again.conn) fell.0 fell.1 c.into_store.ensures.numbered
    c.into_store.ensures.sound
    c.into_store.ensures.quiet.outcomes (both.1.stood clean)
    (λ left. (left ≡ records) ⊎ (left ≡ records ++ r ∷ []))
    (subst (λ (conn : Held _). LeavesOnly (file_state conn)
    (λ left. (left ≡ records) ⊎ (left ≡ records ++ r ∷ [])))
    (sym c.into_file_connection.ensures) leaves) in (
      honest_again (file_state again.conn) clean (∥∥₁_map got (λ x. x.0)),
      one_again _ records r (∥∥₁_map got (λ x. x.1)),
    ) in
    record {
      clean = λ clean.
          let fell =
          crashed g.D.Disk c.into_store.result c.close-log.result.log c.close-log.result.db
          c.crash.new.self c.crash-2.new.self c.close-log.ensures
          c.crash.ensures.clean c.crash-2.ensures.clean c.crash.ensures.left
          c.crash-2.ensures.left
          (both.0 clean) in
          subst (λ (conn : Held _). HasCleanDisk (file_state conn)) c.into_file_connection.ensures
          (store_was_clean c.into_file_connection.result c.into_store.result fell.0
          c.into_store.ensures.quiet.clean);
      kept = kept;
      found = found;
      left = λ clean certain doubtful.
          contents_again (file_state c.args.self.conn) (file_state again.conn) certain doubtful
          (kept clean) (found clean);
    })
    (both_ok c.open_files.result _ _ c.open_files.ensures.clean c.open_files.ensures.found)
