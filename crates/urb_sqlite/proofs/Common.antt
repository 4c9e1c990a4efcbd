-- The names of other files that most proofs of this crate cite, passed on from one place. It
-- declares nothing.
pub use Rattle.std.proofs.Common.{All, Bool, Equal, Err, Greater, IfErr, IfOk, IsPermutation}
pub use Rattle.std.proofs.Common.{IsSome, IsSorted, IsTrue, Less, List, MatchOption, None, Ok}
pub use Rattle.std.proofs.Common.{OnErr, OnOk, Option, Ordering, Result, Some, [], add-zero, ap}
pub use Rattle.std.proofs.Common.{append-nil, append_assoc, ap₂, arith, codes, cond, false, filter}
pub use Rattle.std.proofs.Common.{flat_map, fold, get_or-take, inl, inr, is_gt, is_lt, is_some}
pub use Rattle.std.proofs.Common.{length, length-append, length-take, length-take-le, map, max}
pub use Rattle.std.proofs.Common.{nat_le, nat_lt, negsuc, option_and_then, option_copied}
pub use Rattle.std.proofs.Common.{option_map, pos, refl, rules, slice_get, slice_index}
pub use Rattle.std.proofs.Common.{slice_index_or, subst, suc, sym, take, take_all, true, unwrap_or}
pub use Rattle.std.proofs.Common.{vec_capacity, vec_len, zero, ℕ, ℤ, ⊎_elim, ◌&&◌, ◌++◌, ◌+◌, ◌-◌}
pub use Rattle.std.proofs.Common.{◌<◌, ◌==◌, ◌^◌, ◌||◌, ◌∙◌, ◌∷◌, ◌≡◌, ◌≢◌, ◌≤◌, ◌⊎◌}
pub use Rattle.sqlite.proofs.Callers.{IsPlain, command_of}
pub use Rattle.sqlite.proofs.FileLemmas.{same_image}
pub use Rattle.sqlite.proofs.StateLemmas.{survives_then, survives_weaker}
pub use Rattle.sqlite.specs.Change.{next_tree}
pub use Rattle.sqlite.specs.Command.TheVariants.{Insert}
pub use Rattle.sqlite.specs.Does.{AtPlace, Does, OnRows, Tally}
pub use Rattle.sqlite.specs.Effect.{Database}
pub use Rattle.sqlite.specs.Files.{HoldsDatabase, IsNothing, file_state, image_of}
pub use Rattle.sqlite.specs.Held.{Held, state}
pub use Rattle.sqlite.specs.Kind.TheVariants.{Integer}
pub use Rattle.sqlite.specs.Listing.{if_select, reads_listing}
unfoldable pub use Rattle.sqlite.specs.Listing.{listing_schema, understood}
pub use Rattle.sqlite.specs.Order.{Row, column}
pub use Rattle.sqlite.specs.Source.TheVariants.{Values}
pub use Rattle.sqlite.specs.State.{Executes}
unfoldable pub use Rattle.sqlite.specs.State.{CommitsBy, CommitsShowing, ExecutesIn, FailsToQuery}
pub use Rattle.sqlite.specs.State.{HasCleanDisk, IsLive, IsRolledBack, IsUnchanged, KeepsCommit}
pub use Rattle.sqlite.specs.State.{Opens, Survives, mode_of, text_of}
pub use Rattle.sqlite.specs.Tree.{put_row, rowid}
pub use Rattle.sqlite.specs.declared.error.Error.{Error}
pub use Rattle.sqlite.specs.declared.types.Value.{Value}
pub use Rattle.sqlite.specs.declared.types.Value.TheVariants.{Int, Null, Text}
pub use Rattle.sqlite_ast.specs.declared.Core.{Core}
pub use Rattle.sqlite_ast.specs.declared.Rows.{Rows}
pub use Rattle.sqlite_ast.specs.declared.Select.{Select}
pub use Rattle.sqlite_ast.specs.declared.Sort.{Sort}
pub use Rattle.sqlite_catalog.specs.Listing.{IsSound, IsTableRow}
pub use Rattle.sqlite_draft.specs.Query.{query_of}
pub use Rattle.sqlite_keyed.proofs.ListLemmas.{all_weaker}
pub use Rattle.sqlite_keyed.proofs.SortLemmas.{IsPermutation-sort_by, sorted_unique}
pub use Rattle.sqlite_keyed.specs.Lists.{sort_by}
pub use Rattle.sqlite_pool.specs.Opening.{IsBlankFile}
pub use Rattle.sqlite_resolve.specs.Compile.{first, new_rows, table_defined_by}
unfoldable pub use Rattle.sqlite_resolve.specs.Compile.{compiled}
pub use Rattle.sqlite_resolve.specs.Compile.{with_command}
pub use Rattle.sqlite_resolve.specs.Expr.{lower}
pub use Rattle.sqlite_resolve.specs.Lowering.{and_then, max_budget}
pub use Rattle.sqlite_resolve.specs.Scope.{declared}
pub use Rattle.sqlite_resolve.specs.declared.compiled.Compiled.{Compiled}
pub use Rattle.sqlite_resolve.specs.declared.error.CompileError.TheVariants.{NoSuchTable}
pub use Rattle.sqlite_schema.specs.Names.{index_named, place_of, table_named, view_named}
unfoldable pub use Rattle.sqlite_schema.specs.Names.{same_name}
pub use Rattle.sqlite_schema.specs.declared.command.Returning.{Returning}
pub use Rattle.sqlite_schema.specs.declared.schema.Keys.TheVariants.{Enforced}
pub use Rattle.sqlite_store.specs.FileStore.{view}
pub use Rattle.sqlite_syntax.specs.declared.statement.Parsed.{Parsed}
unfoldable pub use Rattle.sqlite_tied.specs.Compute.{everything}
pub use Rattle.sqlite_trees.proofs.Doubt.{no_doubt}
pub use Rattle.sqlite_trees.specs.Objects.{catalog_tree}
pub use Rattle.sqlite_typing.specs.Types.{accepts_program}
pub use Rattle.sqlite_wal.specs.Recovery.{Image}
pub use Rattle.std.proofs.Math.Logic.{∥∥₁_map}
pub use Rattle.std.proofs.lemmas.Bool.{cases_Bool, eq-eqb, eqb-true}
pub use Rattle.std.proofs.lemmas.List.Elements.{All-from_recursion, recursion_from_All}
pub use Rattle.std.proofs.lemmas.List.Sorted.{All-permutation, IsPermutation-trans}
pub use Rattle.std.proofs.lemmas.Result.{IfOk-weaker, err_from_is_err_and}
pub use Rattle.std.specs.Cmp.{IsTotalOrder}
pub use Rattle.std.specs.List.{AllByRecursion, AllZip}
pub use Rattle.urb_names.proofs.Places.{get_stays}
pub use Rattle.urb_names.specs.LabelsAndContents.{Content, Label}
pub use Rattle.urb_names.specs.declared.limits.TheConstants.{MAX_NODES, MAX_PAYLOAD}
pub use Rattle.urb_sqlite.specs.FoundJournals.{IsFoundIn}
pub use Rattle.urb_sqlite.specs.JournalTables.{HasBoth, HasJournal, HasTable, IsAdoptable, Lacks}
pub use Rattle.urb_sqlite.specs.JournalTables.{create_text, journal_name, limit_of, record_table}
pub use Rattle.urb_sqlite.specs.JournalTables.{second_name, table_of, tree_of}
pub use Rattle.urb_sqlite.specs.OpenJournal.{AddsTable, CommitsEither, IsBase, IsHonestJournal}
pub use Rattle.urb_sqlite.specs.OpenJournal.{IsJournal, IsLonger, IsSafeAtRest, IsShutJournal}
pub use Rattle.urb_sqlite.specs.OpenJournal.{IsTakenOver, LeavesOnly, OpenJournal, database_of}
pub use Rattle.urb_sqlite.specs.RecordRows.{IsFirstBad, IsInOrder, IsWithin, Spells, StandsFor}
pub use Rattle.urb_sqlite.specs.RecordRows.{by_pos, columns_of, row_of, rows_in, shown, table_rows}
pub use Rattle.urb_sqlite.specs.RowReadings.{extended, joined, record_at, records_of}
unfoldable pub use Rattle.urb_sqlite.specs.RowReadings.{read_from}
pub use Rattle.urb_sqlite.specs.TableShapes.{has_table, is_journal}
pub use Rattle.urb_sqlite.specs.declared.sql.Part.{Part}
pub use Rattle.urb_sqlite.specs.declared.sql.Part.TheVariants.{First, Second}
pub use Rattle.urb_sqlite.specs.internal.JournalChanges.{IsAppended, IsCounted, IsInStep, IsKept}
pub use Rattle.urb_sqlite.specs.internal.JournalChanges.{IsLeft, IsMade}
pub use Rattle.urb_sqlite.specs.internal.JournalStatements.{create_of, insert_text, name_of}
pub use Rattle.urb_sqlite.specs.internal.JournalStatements.{second_text, select_of}
pub use Rattle.urb_sqlite.specs.internal.PartOpening.{IsPartOpened, IsPartRefused, IsRead}
pub use Rattle.urb_sqlite.specs.internal.TransactionChanges.{AreAdded, FillsTo, IsFilled, IsFilling}
pub use Rattle.urb_sqlite.specs.internal.TreeRows.{kept_of}
pub use Rattle.urb_stable.specs.Entries.{Entry, IsEntry}
pub use Rattle.urb_stable.specs.StableStorage.{is_bad_row, is_place}
pub use Rattle.urb_stable.specs.declared.record.Record.TheVariants.{Cert, Pend, PendCert}
pub use Rattle.urb_stable.specs.declared.stable.StoreFault.{StoreFault}
pub use Rattle.urb_stable.specs.declared.stable.StoreFault.TheVariants.{Device, NoMemory, Place}
