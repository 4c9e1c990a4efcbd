-- What a DELETE means if its condition compares one column with a parameter.
use Rattle.urb_sqlite.proofs.Common.{List, None, Ok, Parsed, Some, []}
use Rattle.urb_sqlite.proofs.Common.{accepts_program, ap, compiled, false, lower}
use Rattle.urb_sqlite.proofs.Common.{max_budget, nat_lt}
use Rattle.urb_sqlite.proofs.Common.{place_of, query_of, refl, slice_get, table_named}
use Rattle.urb_sqlite.proofs.Common.{true, with_command, ℕ, ◌-◌, ◌∙◌, ◌∷◌, ◌≡◌}
use Rattle.sqlite_ast.specs.declared.Expr.{Expr, out-Expr}
use Rattle.sqlite_ast.specs.declared.Expr.TheOpen.{Expr-F}
use Rattle.sqlite_ast.specs.declared.Binary.TheVariants as binary
use Rattle.sqlite_value.specs.declared.keys.Collation.TheVariants.{Binary}
use Rattle.sqlite_sql.specs.Term.{Term, col, op2}
use Rattle.sqlite_sql.specs.declared.ops.BinaryOp.TheVariants as by
use Rattle.sqlite_sql.specs.declared.ops.CompareOp.TheVariants as compare
use Rattle.sqlite_schema.specs.declared.schema.Schema.{Schema}
use Rattle.sqlite_schema.specs.declared.schema.Table.{Table}
use Rattle.sqlite_schema.specs.declared.schema.Column.{Column}
use Rattle.sqlite_schema.specs.Names.{column_named}
use Rattle.sqlite_resolve.specs.declared.state.State.{State}
use Rattle.sqlite_resolve.specs.Lowering.{Lowering, begin, chosen, finish, first_found}
use Rattle.sqlite_resolve.specs.Lowering.{fresh, nothing, spend}
use Rattle.sqlite_resolve.specs.Scope.{Context, Name, declared}
use Rattle.sqlite_resolve.specs.Expr.{both, combine, lower_to, node, node_at, opened, operation}
use Rattle.sqlite_resolve.specs.Expr.{passes, tests_alias, tests_truth, wanted_truth}
use Rattle.sqlite_resolve.specs.Compare.{compared}
use Rattle.sqlite_draft.specs.declared.join.Step.TheVariants.{Inner}
use Rattle.sqlite_draft.specs.declared.query.Draft.{Draft}
use Rattle.urb_sqlite.proofs.ResolvedSelects.{IsOfText, compiled_is, node_is, over, quiet}
use Rattle.sqlite_resolve.specs.Body as body
use Rattle.sqlite_resolve.specs.Write as write
use Rattle.sqlite_resolve.specs.Program as program
use Rattle.sqlite_resolve.specs.Compile as compile
use Rattle.sqlite_resolve.specs.Compare as comparing
use Rattle.sqlite_ast.specs.declared.Statement.TheVariants as written
use Rattle.sqlite_schema.specs.declared.command.Command.TheVariants as command

-- the state of the resolver after a term that carries no collation
abbrev after : ℕ → State
after budget = quiet 2 budget nothing

-- a parameter is a column of the row of parameters
parameter_is : (below : Context → Expr → Lowering Term) (cx : Context) (e : Expr) (k budget : ℕ)
    → out-Expr e ≡ Expr-F.Parameter k → nat_lt 1 budget ≡ true
    → node below cx e (after budget) ≡ Ok (col 0 (k - 1), after (budget - 1))
unfolding node opened spend begin finish passes
parameter_is below cx e k budget is low =
    let begun = after (budget - 1) in
    let open_is : opened below cx e begun ≡ Ok (col 0 (k - 1), begun) =
    ap (λ l. node_at below cx l begun) is in
    rw (low, open_is, is) refl

-- a comparison of two terms that carry no collation compares them byte by byte
compared_is : (below : Context → Expr → Lowering Term) (cx : Context) (a b : Expr) (x y : Term)
    (s one two : ℕ) → below cx a (after s) ≡ Ok (x, after one)
    → below cx b (after one) ≡ Ok (y, after two)
    → node_at below cx (Expr-F.Binary binary.Ge a b) (after s) ≡ Ok
    (compared cx (by.Compare compare.Ge Binary) x y, after two)
unfolding operation both wanted_truth tests_truth tests_alias combine chosen first_found
compared_is below cx a b x y s one two first second = rw (first, second) refl

-- an expression that compares two others
binary_is : (below : Context → Expr → Lowering Term) (cx : Context) (e a b : Expr) (x y : Term)
    (budget one two : ℕ) → out-Expr e ≡ Expr-F.Binary binary.Ge a b → nat_lt 1 budget ≡ true
    → below cx a (after (budget - 1)) ≡ Ok (x, after one)
    → below cx b (after one) ≡ Ok (y, after two)
    → node below cx e (after budget) ≡ Ok
    (compared cx (by.Compare compare.Ge Binary) x y, after two)
unfolding node opened spend begin finish passes
binary_is below cx e a b x y budget one two is low first second =
    let open_is : opened below cx e (after (budget - 1)) ≡ Ok
    (compared cx (by.Compare compare.Ge Binary) x y, after two) =
    ap (λ l. node_at below cx l (after (budget - 1))) is
    ∙ compared_is below cx a b x y (budget - 1) one two first second in
    rw (low, open_is, is) refl

-- The expression says that the first column isn't below the first parameter.
pub record IsFrom (t : Table) (e : Expr) : Type 0 where
  pub a : Expr
  pub b : Expr
  pub name : Name
  pub c : Column
  pub is : out-Expr e ≡ Expr-F.Binary binary.Ge a b
  pub column_is : out-Expr a ≡ Expr-F.Column None name
  pub parameter_is : out-Expr b ≡ Expr-F.Parameter 1
  pub named : column_named t name ≡ Some 0
  pub has : slice_get t.columns 0 ≡ Some c
  pub place : place_of t 0 ≡ 0
  pub bare : declared t 0 c ≡ nothing

-- that expression as a term
abbrev pub from_test : Term
from_test = op2 (by.Compare compare.Ge Binary) (col 1 0) (col 0 0)

-- the draft of the rowids of the rows that pass the test
abbrev pub draft_from : Table → Draft
draft_from t = write.simple (Inner t.tree ∷ []) (from_test ∷ []) (col 1 0 ∷ [])

module _ (s : Schema) (at : ℕ) (t : Table) (there : slice_get s.tables at ≡ Some t) where
  -- a comparison with the rowid converts nothing
  unconverted : (n : Name) → compared (over s at t there n [] false)
      (by.Compare compare.Ge Binary) (col 1 0) (col 0 0) ≡ op2 (by.Compare compare.Ge Binary)
      (col 1 0) (col 0 0)
  unfolding compared comparing.converted comparing.affinity_of comparing.of_column
      comparing.may_be_text comparing.is_parameter
  unconverted n = refl

  -- the first side is the first column
  first_is : (n : Name) (e : Expr) (h : IsFrom t e)
      → lower_to 699 (over s at t there n [] false) h.a (after 99999) ≡ Ok (col 1 0, after 99998)
  unfolding lower_to
  first_is n e h =
      let got =
      node_is s at t there (lower_to 698) n [] false h.a h.name 0 h.c 2 99999 nothing h.column_is
      h.named h.has refl in
      rw (h.place, h.bare) at got

  -- the second side is the first parameter
  second_is : (n : Name) (e : Expr) (h : IsFrom t e)
      → lower_to 699 (over s at t there n [] false) h.b (after 99998) ≡ Ok (col 0 0, after 99997)
  unfolding lower_to
  second_is n e h =
      parameter_is (lower_to 698) (over s at t there n [] false) h.b 1 99998 h.parameter_is refl

  -- the expression is resolved to that term
  test_is : (n : Name) (e : Expr) → IsFrom t e
      → lower (over s at t there n [] false) e (fresh 2 max_budget) ≡ Ok (from_test, after 99997)
  unfolding lower_to
  test_is n e h =
      binary_is (lower_to 699) (over s at t there n [] false) e h.a h.b (col 1 0) (col 0 0) 100000
      99998 99997 h.is refl (first_is n e h) (second_is n e h)
      ∙ ap (λ x. Ok (x, after 99997)) (unconverted n)

  -- a DELETE with this condition picks the rowids of the rows that pass the test
  pub deleted_is : (e : Expr) → IsFrom t e → write.deleted s at t (Some e) ≡ Ok (draft_from t)
  unfolding write.deleted write.picked body.tests
  deleted_is e h = rw (test_is t.name e h) refl

  -- the text of a DELETE from a table that is there compiles to a DELETE of these rows
  pub removed_is : (text : List ℕ) (p : Parsed) (n : Name) (e : Expr)
      → IsOfText text p (written.Delete n (Some e) []) → IsFrom t e → table_named s n ≡ Some at
      → accepts_program s [] (query_of (draft_from t)) [] ≡ true
      → compiled s text ≡ Ok (with_command p (
        [],
        (command.Delete at (record { lets = []; body = query_of (draft_from t) }), None),
      ))
  unfolding compile.timed compile.returning compile.shows compile.command compile.delete
      program.program
  removed_is text p n e h from named typed =
      compiled_is s text p (written.Delete n (Some e) []) _ h refl refl
      (rw (named, there, deleted_is e from, typed) refl)
