-- What a SELECT of plain columns means if its one table is found by its name.
use Rattle.urb_sqlite.proofs.Common.{Bool, Compiled, Core, Int, List, None, Ok, Parsed, Rows}
use Rattle.urb_sqlite.proofs.Common.{Select, Some, Sort, [], accepts_program, and_then, ap}
use Rattle.urb_sqlite.proofs.Common.{compiled, declared, false, first, lower, map, max_budget}
use Rattle.urb_sqlite.proofs.Common.{nat_lt, negsuc, place_of, pos, query_of, reads_listing, refl}
use Rattle.urb_sqlite.proofs.Common.{slice_get, suc, table_named, true, understood, with_command, ℕ}
use Rattle.urb_sqlite.proofs.Common.{◌++◌, ◌+◌, ◌-◌, ◌∙◌, ◌∷◌, ◌≡◌}
use Rattle.sqlite_ast.specs.declared.Expr.{Expr, out-Expr}
use Rattle.sqlite_ast.specs.declared.Expr.TheOpen.{Expr-F, Shown-F}
use Rattle.sqlite_ast.specs.declared.Shown.{Shown, out-Shown}
use Rattle.sqlite_ast.specs.declared.Select.{out-Select}
use Rattle.sqlite_ast.specs.declared.Source.{Source, out-Source}
use Rattle.sqlite_ast.specs.declared.Core.{out-Core}
use Rattle.sqlite_ast.specs.declared.Sort.{out-Sort}
use Rattle.sqlite_sql.specs.Term.{Term, col, lit}
use Rattle.sqlite_schema.specs.declared.schema.Schema.{Schema}
use Rattle.sqlite_schema.specs.declared.schema.Table.{Table}
use Rattle.sqlite_schema.specs.Names.{column_named}
use Rattle.sqlite_resolve.specs.declared.scope.Bound.{Bound}
use Rattle.sqlite_resolve.specs.declared.scope.Output.{Output}
use Rattle.sqlite_resolve.specs.declared.scope.Level.{Level}
use Rattle.sqlite_resolve.specs.declared.scope.Found.TheVariants.{Column}
use Rattle.sqlite_resolve.specs.declared.state.State.{State}
use Rattle.sqlite_resolve.specs.declared.state.Carried.{Carried}
use Rattle.sqlite_resolve.specs.Lowering.{Lowering, alone, begin, finish, fresh, spend, take_slot}
use Rattle.sqlite_resolve.specs.Scope.{Context, Name, column_at, column_in, find, hit, in_level}
use Rattle.sqlite_resolve.specs.Scope.{is_among, only, term_of}
use Rattle.sqlite_resolve.specs.Expr.{lower_to, node, node_at, opened, passes}
use Rattle.sqlite_resolve.specs.Select.{outermost}
use Rattle.sqlite_resolve.specs.declared.body.Body.{Body}
use Rattle.sqlite_value.specs.declared.keys.Key.{Key}
use Rattle.sqlite_draft.specs.declared.join.Step.TheVariants.{Inner}
use Rattle.sqlite_draft.specs.declared.query.Draft.{Draft}
use Rattle.sqlite_draft.specs.Join.{chain}
use Rattle.sqlite_schema.specs.declared.command.Command.{Command}
use Rattle.sqlite_ast.specs.declared.Statement.{Statement}
use Rattle.sqlite_resolve.specs.Program.{query, query_to}
use Rattle.sqlite_schema.specs.declared.program.Table.{Table as Let}
use Rattle.sqlite_ast.specs.declared.Origin.TheVariants as origin
use Rattle.sqlite_schema.specs.declared.schema.Column as schema
use Rattle.sqlite_resolve.specs.Scope as scope
use Rattle.sqlite_resolve.specs.Body as body
use Rattle.sqlite_resolve.specs.Order as order
use Rattle.sqlite_resolve.specs.Select as select
use Rattle.sqlite_ast.specs.declared.Statement.TheVariants as written
use Rattle.sqlite_resolve.specs.Program as program
use Rattle.sqlite_resolve.specs.Compile as compile
use Rattle.sqlite_schema.specs.declared.command.Command.TheVariants as command
use Rattle.sqlite_schema.specs.declared.command.Source as source
use Rattle.sqlite_ast.specs.declared.Conflict.TheVariants as conflict

-- the resolver's state with no steps and no aggregates, with this budget left
abbrev pub quiet : ℕ → ℕ → Carried → State
quiet next budget last = record
    { next = next; steps = []; aggregates = []; budget = budget; written = None; last = last }

-- an item of the result is this column of the table
pub record IsColumn (t : Table) (sh : Shown) (k : ℕ) (c : schema.Column) : Type 0 where
  pub e : Expr
  pub text : Name
  pub name : Name
  pub one : out-Shown sh ≡ Shown-F.One e None text
  pub is : out-Expr e ≡ Expr-F.Column None name
  pub named : column_named t name ≡ Some k
  pub has : slice_get t.columns k ≡ Some c

-- FROM has this one table, by its name alone
pub record IsPlainSource (src : Source) (n : Name) : Type 0 where
  pub origin : (out-Source src).origin ≡ origin.Table n
  pub alias : (out-Source src).alias ≡ None
  pub using : (out-Source src).using ≡ []
  pub on : (out-Source src).on ≡ None
  pub is_left : (out-Source src).is_left ≡ false

-- a SELECT from one table with neither WHERE nor groups
pub record IsPlainCore (core : Core) (n : Name) (shs : List Shown) : Type 0 where
  pub src : Source
  pub from : (out-Core core).from ≡ src ∷ []
  pub plain : IsPlainSource src n
  pub shown : (out-Core core).shown ≡ shs
  pub filter : (out-Core core).filter ≡ None
  pub group : (out-Core core).group ≡ []
  pub having : (out-Core core).having ≡ None
  pub distinct : (out-Core core).distinct ≡ false

-- ORDER BY has this one column
pub record IsPlainSort (t : Table) (so : Sort) (k : ℕ) (c : schema.Column)
    (outs : List Output) : Type 0 where
  pub name : Name
  pub is : out-Expr (out-Sort so).key ≡ Expr-F.Column None name
  pub descending : (out-Sort so).descending ≡ false
  pub nulls : (out-Sort so).nulls_first ≡ None
  pub named : column_named t name ≡ Some k
  pub has : slice_get t.columns k ≡ Some c
  pub unaliased : scope.alias_of name outs ≡ None

module _ (s : Schema) (at : ℕ) (t : Table) (there : slice_get s.tables at ≡ Some t) where
  -- the table in FROM under this name
  abbrev pub bound_to : Name → Bound
  bound_to n = record { name = n; table = at; slot = 1; shared = [] }

  -- the context of a SELECT from this table alone, which shows these columns
  abbrev pub over : Name → List Output → Bool → Context
  over n shown grouped = record {
    schema = s;
    levels = (record { tables = bound_to n ∷ []; shown = shown }) ∷ [];
    may_aggregate = grouped;
    may_alias = true;
  }

  find_is : (n : Name) (shown : List Output) (g : Bool) (name : Name) (k : ℕ)
      → column_named t name ≡ Some k → find (over n shown g) None name ≡ Ok (Column 1 at k)
  unfolding find in_level only hit column_in is_among
  find_is n shown g name k named = rw (there, named) refl

  term_is : (n : Name) (shown : List Output) (g : Bool) (k : ℕ) (c : schema.Column) (st : State)
      → slice_get t.columns k ≡ Some c
      → term_of (over n shown g) (Column 1 at k) st ≡ Ok
      (col 1 (place_of t k), record st { last = declared t k c })
  unfolding term_of column_at
  term_is n shown g k c st has = rw (there, has) refl

  column_is : (n : Name) (shown : List Output) (g : Bool) (name : Name) (k : ℕ) (c : schema.Column)
      (st : State) → column_named t name ≡ Some k → slice_get t.columns k ≡ Some c
      → scope.column (over n shown g) None name st ≡ Ok
      (col 1 (place_of t k), record st { last = declared t k c })
  unfolding Rattle.sqlite_resolve.specs.Scope.column
  column_is n shown g name k c st named has =
      rw (find_is n shown g name k named) (term_is n shown g k c st has)

  -- a column of the table is resolved to its place
  pub node_is : (below : Context → Expr → Lowering Term) (n : Name) (shown : List Output) (g : Bool)
      (e : Expr) (name : Name) (k : ℕ) (c : schema.Column) (next budget : ℕ) (last : Carried)
      → out-Expr e ≡ Expr-F.Column None name → column_named t name ≡ Some k
      → slice_get t.columns k ≡ Some c → nat_lt 1 budget ≡ true
      → node below (over n shown g) e (quiet next budget last) ≡ Ok
      (col 1 (place_of t k), quiet next (budget - 1) (declared t k c))
  unfolding node opened spend begin finish passes
  node_is below n shown g e name k c next budget last is named has low =
      let at_begin = quiet next (budget - 1) Rattle.sqlite_resolve.specs.Lowering.nothing in
      let open_is : opened below (over n shown g) e at_begin ≡ Ok
      (col 1 (place_of t k), record at_begin { last = declared t k c }) =
      ap (λ l. node_at below (over n shown g) l at_begin) is
      ∙ column_is n shown g name k c at_begin named has in
      rw (low, open_is, is) refl

  -- the column of the result that a column of the table makes
  abbrev pub output_of : ℕ → schema.Column → Output
  output_of k c = record {
    name = c.name;
    is_alias = false;
    is_column = true;
    term =
        col 1 (place_of t k);
    carried = declared t k c;
  }

  heading_is : (n : Name) (shown : List Output) (g : Bool) (e : Expr) (text name : Name) (k : ℕ)
      (c : schema.Column) → out-Expr e ≡ Expr-F.Column None name → column_named t name ≡ Some k
      → slice_get t.columns k ≡ Some c
      → body.heading (over n shown g) e text ≡ c.name
  unfolding body.heading body.declared
  heading_is n shown g e text name k c is named has =
      rw (is, find_is n shown g name k named, there, has) refl

  lower_is : (n : Name) (shown : List Output) (g : Bool) (e : Expr) (name : Name) (k : ℕ)
      (c : schema.Column) (next budget : ℕ) (last : Carried)
      → out-Expr e ≡ Expr-F.Column None name → column_named t name ≡ Some k
      → slice_get t.columns k ≡ Some c → nat_lt 1 budget ≡ true
      → lower (over n shown g) e (quiet next budget last) ≡ Ok
      (col 1 (place_of t k), quiet next (budget - 1) (declared t k c))
  unfolding lower_to
  lower_is n shown g e name k c next budget last is named has low =
      node_is (lower_to 699) n shown g e name k c next budget last is named has low

  shown_is : (below : Context → Expr → Lowering Term) (cx : Context) (tables : List Bound)
      (done : List Output) (sh : Shown) (e : Expr) (text : Name) (st after : State) (term : Term)
      → out-Shown sh ≡ Shown-F.One e None text
      → below cx e st ≡ Ok (term, after)
      → body.shown below cx tables done sh st ≡ Ok (
        done ++ (record {
          name = body.heading cx e text;
          is_alias = false;
          is_column =
              body.is_column e;
          term = term;
          carried = after.last;
        }) ∷ [],
        after,
      )
  unfolding body.shown
  shown_is below cx tables done sh e text st after term one lowered =
      ap (λ l. body.shown_at below cx tables done l st) one ∙ rw lowered refl

  is_column_is : (e : Expr) (name : Name) → out-Expr e ≡ Expr-F.Column None name
      → body.is_column e ≡ true
  unfolding body.is_column
  is_column_is e name is = ap body.is_column_at is

  -- resolving one more plain column of a SELECT adds this column to the result
  pub outputs_more : (n : Name) (tables : List Bound) (done : List Output) (sh : Shown)
      (more : List Shown) (k : ℕ) (c : schema.Column) (next budget : ℕ) (last : Carried)
      → IsColumn t sh k c → nat_lt 1 budget ≡ true
      → body.outputs_from lower (over n [] true) tables done (sh ∷ more) (quiet next budget last)
      ≡ body.outputs_from lower (over n [] true) tables (done ++ output_of k c ∷ []) more
      (quiet next (budget - 1) (declared t k c))
  outputs_more n tables done sh more k c next budget last h low =
      let after = quiet next (budget - 1) (declared t k c) in
      let got =
      shown_is lower (over n [] true) tables done sh h.e h.text (quiet next budget last) after
      (col 1 (place_of t k)) h.one (lower_is n
      [] true h.e h.name k c next budget last h.is h.named h.has low) in
      let named =
      got ∙ ap (λ x. Ok (
        done ++ (record {
          name = x;
          is_alias = false;
          is_column = body.is_column h.e;
          term =
              col 1 (place_of t k);
          carried = declared t k c;
        }) ∷ [],
        after,
      ))
      (heading_is n [] true h.e h.text h.name k c h.is h.named h.has) in
      let whole =
      named ∙ ap (λ b. Ok (
        done ++ (record {
          name = c.name;
          is_alias = false;
          is_column = b;
          term = col 1 (place_of t k);
          carried =
              declared t k c;
        }) ∷ [],
        after,
      )) (is_column_is h.e h.name h.is) in
      ap (λ r. and_then r (λ r. body.outputs_from lower (over n [] true) tables r.0 more r.1)) whole

  bounds_is : (src : Source) (n : Name) (budget : ℕ) (last : Carried) → IsPlainSource src n
      → table_named s n ≡ Some at
      → body.bounds s (src ∷ []) (quiet 1 budget last) ≡ Ok (bound_to n ∷ [], quiet 2 budget last)
  unfolding body.bounds body.bound body.table_in take_slot
  bounds_is src n budget last h found = rw (h.origin, h.alias, h.using, found) refl

  joins_is : (below : Context → Expr → Lowering Term) (n : Name) (shown : List Output)
      (src : Source) (st : State) → IsPlainSource src n
      → body.joins below (over n shown false) (bound_to n ∷ []) (src ∷ []) st ≡ Ok
      (record { steps = Inner t.tree ∷ []; filter = [] }, st)
  unfolding body.joins body.join body.shared body.inner_join body.tests
  joins_is below n shown src st h = rw (h.on, h.using, there, h.is_left) refl

  abbrev level_of : Name → List Output → Level
  level_of n outs = record { tables = bound_to n ∷ []; shown = outs }

  abbrev body_of : Name → List Output → Body
  body_of n outs = record { level = level_of n outs; steps = Inner t.tree ∷ []; filter = [] }

  body_is : (below : Context → Expr → Lowering Term) (core : Core) (n : Name) (shs : List Shown)
      (outs : List Output) (budget : ℕ) (last : Carried) → IsPlainCore core n shs
      → table_named s n ≡ Some at
      → body.outputs below (over n [] true) (bound_to n ∷ []) shs
      (quiet 2 max_budget Rattle.sqlite_resolve.specs.Lowering.nothing) ≡ Ok
      (outs, quiet 2 budget last)
      → body.body below (outermost s) core (fresh 1 max_budget) ≡ Ok
      (body_of n outs, quiet 2 budget last)
  unfolding body.body body.result body.matching body.tests
  body_is below core n shs outs budget last h found made =
      rw (
        h.from,
        h.shown,
        h.filter,
        bounds_is h.src n max_budget Rattle.sqlite_resolve.specs.Lowering.nothing h.plain found,
        made,
        joins_is below n outs h.src (quiet 2 budget last) h.plain,
      ) refl

  -- ascending order by one column of the table
  abbrev pub order_of : ℕ → schema.Column → List (Term × Key)
  order_of k c =
      (col 1 (place_of t k), record { collation = alone (declared t k c); descending = false }) ∷ []

  peeled_is : (e : Expr) (name : Name) → out-Expr e ≡ Expr-F.Column None name → order.peeled e ≡ e
  unfolding order.peeled
  peeled_is e name is = ap (order.peeled_at e) is

  alias_is : (e : Expr) (name : Name) (outs : List Output) → out-Expr e ≡ Expr-F.Column None name
      → scope.alias_of name outs ≡ None → order.alias_in outs e ≡ None
  unfolding order.alias_in
  alias_is e name outs is none = ap (order.alias_at outs) is ∙ none

  numeral_is : (e : Expr) (name : Name) → out-Expr e ≡ Expr-F.Column None name
      → order.is_numeral e ≡ false
  unfolding order.is_numeral
  numeral_is e name is = ap order.is_numeral_at is

  written_is : (e : Expr) (name : Name) → out-Expr e ≡ Expr-F.Column None name
      → order.written_on e ≡ None
  unfolding order.written_on
  written_is e name is = ap order.written_at is

  key_is : (below : Context → Expr → Lowering Term) (cx : Context) (outs : List Output) (e : Expr)
      (k : ℕ) (st after : State) → order.is_numeral e ≡ false → below cx e st ≡ Ok (col 1 k, after)
      → order.key below cx outs e st ≡ Ok (col 1 k, after)
  unfolding order.key
  key_is below cx outs e k st after plain lowered = rw (lowered, plain) refl

  sorted_is : (below : Context → Expr → Lowering Term) (cx : Context) (outs : List Output)
      (so : Sort) (k : ℕ) (st after : State)
      → order.peeled (out-Sort so).key ≡ (out-Sort so).key
      → order.alias_in outs (out-Sort so).key ≡ None → order.written_on (out-Sort so).key ≡ None
      → (out-Sort so).descending ≡ false → (out-Sort so).nulls_first ≡ None
      → order.key below cx outs (out-Sort so).key st ≡ Ok (col 1 k, after)
      → order.sorts below cx outs (so ∷ []) st ≡ Ok
      ((col 1 k, record { collation = alone after.last; descending = false }) ∷ [], after)
  unfolding order.sorts order.sort order.collation_of order.placed
  sorted_is below cx outs so k st after peeled unaliased unwritten up nulls lowered =
      rw (peeled, unaliased, lowered, unwritten, up, nulls) refl

  sort_is : (n : Name) (outs : List Output) (so : Sort) (k : ℕ) (c : schema.Column)
      (next budget : ℕ) (last : Carried) → IsPlainSort t so k c outs → nat_lt 1 budget ≡ true
      → order.sorts lower (over n outs false) outs (so ∷ []) (quiet next budget last) ≡ Ok
      (order_of k c, quiet next (budget - 1) (declared t k c))
  sort_is n outs so k c next budget last h low =
      let e = (out-Sort so).key in
      let after = quiet next (budget - 1) (declared t k c) in
      sorted_is lower (over n outs false) outs so (place_of t k) (quiet next budget last) after
      (peeled_is e h.name h.is) (alias_is e h.name outs h.is h.unaliased)
      (written_is e h.name h.is) h.descending h.nulls
      (key_is lower (over n outs false) outs e (place_of t k) (quiet next budget last) after
      (numeral_is e h.name h.is) (lower_is n outs false e h.name k c next budget last h.is
      h.named h.has low))

  parts_is : (core : Core) (n : Name) (shs : List Shown) (outs : List Output) (so : Sort) (k : ℕ)
      (c : schema.Column) (budget : ℕ) (last : Carried) → IsPlainCore core n shs
      → table_named s n ≡ Some at
      → body.outputs lower (over n [] true) (bound_to n ∷ []) shs
      (quiet 2 max_budget Rattle.sqlite_resolve.specs.Lowering.nothing) ≡ Ok
      (outs, quiet 2 budget last)
      → IsPlainSort t so k c outs → nat_lt 1 budget ≡ true
      → select.parts s core (so ∷ []) (fresh 1 max_budget) ≡ Ok (
        record {
          body = body_of n outs;
          is_grouped = false;
          keys = [];
          collations = [];
          having =
              [];
          order = order_of k c;
        },
        quiet 2 (budget - 1) (declared t k c),
      )
  unfolding select.parts select.having order.keys body.tests
  parts_is core n shs outs so k c budget last h found made sorted low =
      rw (
        body_is lower core n shs outs budget last h found made,
        h.group,
        h.having,
        sort_is n outs so k c 2 budget last sorted low,
      ) refl

  -- the draft of a SELECT of these columns, ordered by one column of the table
  abbrev pub draft_of : List Output → ℕ → schema.Column → Term × Term → Draft
  draft_of outs k c page = record {
    from = chain (Inner t.tree ∷ []);
    filter = [];
    group = None;
    project = map (λ (o : Output). o.term) outs;
    distinct = false;
    collations = [];
    order = order_of k c;
    limit = page.0;
    offset = page.1;
  }

  -- a plain SELECT from one table, ordered by one column, is resolved to a draft of its columns
  pub named_is : (core : Core) (n : Name) (shs : List Shown) (outs : List Output) (so : Sort)
      (k : ℕ) (c : schema.Column) (budget : ℕ) (last : Carried) (page : Term × Term)
      → IsPlainCore core n shs → table_named s n ≡ Some at
      → body.outputs lower (over n [] true) (bound_to n ∷ []) shs
      (quiet 2 max_budget Rattle.sqlite_resolve.specs.Lowering.nothing) ≡ Ok
      (outs, quiet 2 budget last)
      → IsPlainSort t so k c outs → nat_lt 1 budget ≡ true
      → select.named s core (so ∷ []) page ≡ Ok (
        draft_of outs k c page,
        map (λ (o : Output). o.name) outs,
        map (λ (o : Output). o.carried.collation) outs,
      )
  unfolding select.named select.assembled select.ungrouped
  named_is core n shs outs so k c budget last page h found made sorted low =
      rw (parts_is core n shs outs so k c budget last h found made sorted low, h.distinct) refl

-- ---- a query with neither WITH nor other parts

-- a SELECT of one core, ordered by one column, with no limit and no offset
pub record IsPlainSelect (sel : Select) (core : Core) (so : Sort) : Type 0 where
  pub with : (out-Select sel).with ≡ []
  pub first : (out-Select sel).first ≡ core
  pub others : (out-Select sel).others ≡ []
  pub order : (out-Select sel).order ≡ so ∷ []
  pub limit : (out-Select sel).limit ≡ None
  pub offset : (out-Select sel).offset ≡ None

-- the terms for no limit and no offset
abbrev pub no_page : Term × Term
no_page = (lit (Int (negsuc 0)), lit (Int (pos 0)))

paging_is : (s : Schema) (sel : Select) → (out-Select sel).limit ≡ None
    → (out-Select sel).offset ≡ None → select.paging s sel ≡ Ok no_page
unfolding select.paging select.constant_or
paging_is s sel limit offset = rw (limit, offset) refl

viewing_is : (q : Schema → Select → program.Building program.Shown) (outer : Schema) (core : Core)
    (by_order : List Sort) (page : Term × Term) (n : ℕ) (s : Schema) (lets : List Let)
    (shown : program.Shown) → select.named s core by_order page ≡ Ok shown
    → program.viewing q outer core by_order page (suc n) s lets ≡ Ok ((shown, s), lets)
unfolding program.viewing
viewing_is q outer core by_order page n s lets shown named =
    ap (λ r. program.or_view q (program.viewing q outer core by_order page n) outer s r lets) named

single_is : (q : Schema → Select → program.Building program.Shown) (s : Schema) (core : Core)
    (n : Name) (shs : List Shown) (by_order : List Sort) (page : Term × Term) (lets : List Let)
    (shown : program.Shown) → IsPlainCore core n shs
    → program.viewing q s core by_order page 64 s lets ≡ Ok ((shown, s), lets)
    → program.single q s core by_order page lets ≡ Ok ((shown, s), lets)
unfolding program.single program.sources program.source
single_is q s core n shs by_order page lets shown h viewed = rw (h.from, h.plain.origin) viewed

level_is : (q : Schema → Select → program.Building program.Shown) (s : Schema) (sel : Select)
    (core : Core) (so : Sort) (shown : program.Shown) → IsPlainSelect sel core so
    → program.single q s core (so ∷ []) no_page [] ≡ Ok ((shown, s), [])
    → program.level q s sel [] ≡ Ok (shown, [])
unfolding program.level program.with program.whole program.alone
level_is q s sel core so shown h single =
    rw (h.with, paging_is s sel h.limit h.offset, h.others, h.first, h.order, single) refl

query_is : (s : Schema) (sel : Select) (core : Core) (n : Name) (shs : List Shown) (so : Sort)
    (shown : program.Shown) → IsPlainSelect sel core so → IsPlainCore core n shs
    → select.named s core (so ∷ []) no_page ≡ Ok shown → query s sel ≡ Ok (shown, [])
unfolding query query_to
query_is s sel core n shs so shown plain h named =
    level_is (query_to 15) s sel core so shown plain
    (single_is (query_to 15) s core n shs (so ∷ []) no_page [] shown h
    (viewing_is (query_to 15) s core (so ∷ []) no_page 63 s [] shown named))

-- ---- the command of a text, by its statement

-- the statement doesn't return rows and doesn't ask for the time
pub record IsOfText (text : List ℕ) (p : Parsed) (st : Statement) : Type 0 where
  pub parsed : first text ≡ Ok p
  pub statement : p.statement ≡ st
  pub formats : p.formats ≡ []

-- the first number after those of the text's parameters
abbrev pub base_of : Parsed → ℕ
base_of p = compile.small p.names + 0

-- a text means what its statement means
pub compiled_is : (s : Schema) (text : List ℕ) (p : Parsed) (st : Statement) (c : Command)
    → IsOfText text p st → compile.timed s [] st ≡ [] → compile.returning s (base_of p) st ≡ Ok None
    → compile.command s [] (base_of p) st ≡ Ok c
    → compiled s text ≡ Ok (with_command p ([], (c, None)))
unfolding compiled compile.planned compile.meaning
compiled_is s text p st c h untimed bare means =
    rw (h.parsed, h.statement, h.formats, untimed, bare, means) refl

-- a text that compiles has this meaning
pub understood_is : (s : Schema) (text : List ℕ) (c : Compiled) → compiled s text ≡ Ok c
    → (understood s text ≡ Ok c) × (reads_listing s text ≡ false)
unfolding understood
understood_is s text c made = (rw made refl, rw made refl)

-- the text of a plain SELECT compiles to the query of its draft
pub read_is : (s : Schema) (text : List ℕ) (p : Parsed) (sel : Select) (core : Core) (n : Name)
    (shs : List Shown) (so : Sort) (d : Draft) (names : List Name) (collations : _)
    → IsOfText text p (written.Select sel) → IsPlainSelect sel core so → IsPlainCore core n shs
    → select.named s core (so ∷ []) no_page ≡ Ok (d, names, collations)
    → accepts_program s [] (query_of d) [] ≡ true
    → compiled s text ≡ Ok (with_command p
    ([], (command.Select (record { lets = []; body = query_of d }) names, None)))
unfolding compile.timed compile.returning compile.command compile.read program.program
read_is s text p sel core n shs so d names collations h plain from named typed =
    compiled_is s text p (written.Select sel) _ h refl refl
    (rw (query_is s sel core n shs so (d, names, collations) plain from named, typed) refl)

-- the text of an INSERT into a table that is there compiles to an INSERT of its rows
pub inserted_is : (s : Schema) (text : List ℕ) (p : Parsed) (n : Name) (rows : Rows) (at : ℕ)
    (t : Table) (src : source.Source)
    → IsOfText text p (written.Insert conflict.Abort n [] rows [] [])
    → table_named s n ≡ Some at → slice_get s.tables at ≡ Some t → t.stamps.formats ≡ []
    → compile.new_rows s t (base_of p) [] rows ≡ Ok src
    → compiled s text ≡ Ok (with_command p ([], (command.Insert at src, None)))
unfolding compile.timed compile.returning compile.shows compile.command compile.insert_or_abort
    compile.insert
inserted_is s text p n rows at t src h found there untimed made =
    compiled_is s text p (written.Insert conflict.Abort n [] rows [] []) _ h
    (rw (found, there) untimed) refl (rw (found, there, made) refl)
