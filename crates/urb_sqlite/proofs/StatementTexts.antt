-- What the texts mean under a schema that has the table, computed by the resolver's definition.
use Rattle.urb_sqlite.proofs.Common.{Core, Err, First, HasTable, Int, Integer, IsPlain, List}
use Rattle.urb_sqlite.proofs.Common.{NoSuchTable, None, Null, Ok, Option, Parsed, Part, Returning}
use Rattle.urb_sqlite.proofs.Common.{Rows, Second, Select, Some, Sort, Values, [], accepts_program}
use Rattle.urb_sqlite.proofs.Common.{ap, codes, command_of, compiled, create_of, declared}
use Rattle.urb_sqlite.proofs.Common.{everything, false, first, if_select, insert_text}
use Rattle.urb_sqlite.proofs.Common.{listing_schema, lower, max_budget, name_of, nat_le, negsuc}
use Rattle.urb_sqlite.proofs.Common.{new_rows, option_and_then, place_of, pos, query_of}
use Rattle.urb_sqlite.proofs.Common.{reads_listing, record_table, refl, same_name, second_name}
use Rattle.urb_sqlite.proofs.Common.{select_of, slice_get, subst, sym, table_defined_by}
use Rattle.urb_sqlite.proofs.Common.{table_named, text_of, tree_of, true, understood, with_command}
use Rattle.urb_sqlite.proofs.Common.{ℕ, ◌==◌, ◌^◌, ◌∙◌, ◌∷◌, ◌≡◌}
use Rattle.std.proofs.Common.{find}
use Rattle.sqlite.specs.Term.{Term, col, lit}
use Rattle.sqlite.specs.Collation.TheVariants.{Binary}
use Rattle.sqlite.specs.Table.{Table}
use Rattle.sqlite.specs.Schema.{Schema}
use Rattle.sqlite_ast.specs.declared.Shown.{Shown}
use Rattle.sqlite_schema.specs.declared.schema.Column.{Column}
use Rattle.sqlite_ast.specs.declared.CreateTable.{CreateTable}
use Rattle.sqlite.specs.Command.{Command}
use Rattle.sqlite_resolve.specs.declared.scope.Output.{Output}
use Rattle.urb_sqlite.specs.JournalTables.{integer}
use Rattle.sqlite_resolve.specs.Lowering.{nothing}
use Rattle.sqlite_resolve.specs.Body.{outputs}
use Rattle.sqlite.specs.Query.{Query, end, inner}
use Rattle.urb_sqlite.proofs.ResolvedSelects.{IsColumn, IsOfText, IsPlainCore, IsPlainSelect}
use Rattle.urb_sqlite.proofs.ResolvedSelects.{IsPlainSort, base_of, bound_to, draft_of, inserted_is}
use Rattle.urb_sqlite.proofs.ResolvedSelects.{named_is, no_page, outputs_more, over, quiet, read_is}
use Rattle.urb_sqlite.proofs.ResolvedSelects.{understood_is}
use Rattle.sqlite.specs.Kind.TheVariants as kind
use Rattle.sqlite.specs.Command.TheVariants as command
use Rattle.sqlite_ast.specs.declared.Statement.TheVariants as written
use Rattle.sqlite_ast.specs.declared.Conflict.TheVariants as conflict

-- the terms that the INSERT puts into a row: its seven parameters, and no value for the key's
-- column
abbrev pub terms : List Term
terms = col 0 0 ∷ lit Null ∷ col 0 1 ∷ col 0 2 ∷ col 0 3 ∷ col 0 4 ∷ col 0 5 ∷ col 0 6 ∷ []

-- ---- what the texts are written as

abbrev place_column : Column
place_column = record {
  name = codes "pos";
  kind = Integer;
  is_strict = true;
  not_null =
      false;
  default = Null;
  collation = Binary;
}

abbrev payload_column : Column
payload_column = record {
  name = codes "payload";
  kind = kind.Blob;
  is_strict = true;
  not_null =
      true;
  default = Null;
  collation = Binary;
}

-- a column of the result
abbrev out : Table → ℕ → Column → Output
out t k c = record {
  name = c.name;
  is_alias = false;
  is_column = true;
  term =
      col 1 (place_of t k);
  carried = declared t k c;
}

-- the seven columns of the result
abbrev outs : List ℕ → ℕ → List Output
outs name tree =
    let t = record_table name tree in
    out t 0 place_column ∷ out t 1 (integer (codes "kind")) ∷ out t 2
    (integer (codes "sender")) ∷ out t 3 (integer (codes "seq")) ∷ out t 4
    (integer (codes "client")) ∷ out t 5
    (integer (codes "number")) ∷ out t 6 payload_column ∷ []

-- the seven columns of a table, read in order of the first
pub record Selects (text name : List ℕ) : Type 0 where
  pub p : Parsed
  pub sel : Select
  pub core : Core
  pub so : Sort
  pub a : Shown
  pub b : Shown
  pub c : Shown
  pub d : Shown
  pub e : Shown
  pub f : Shown
  pub g : Shown
  pub of : IsOfText text p (written.Select sel)
  pub plain : IsPlainSelect sel core so
  pub from : IsPlainCore core name (a ∷ b ∷ c ∷ d ∷ e ∷ f ∷ g ∷ [])
  pub places : (tree : ℕ) → IsColumn (record_table name tree) a 0 place_column
  pub kinds : (tree : ℕ) → IsColumn (record_table name tree) b 1 (integer (codes "kind"))
  pub senders : (tree : ℕ) → IsColumn (record_table name tree) c 2 (integer (codes "sender"))
  pub seqs : (tree : ℕ) → IsColumn (record_table name tree) d 3 (integer (codes "seq"))
  pub clients : (tree : ℕ) → IsColumn (record_table name tree) e 4 (integer (codes "client"))
  pub numbers : (tree : ℕ) → IsColumn (record_table name tree) f 5 (integer (codes "number"))
  pub payloads : (tree : ℕ) → IsColumn (record_table name tree) g 6 payload_column
  pub order : (tree : ℕ) → IsPlainSort (record_table name tree) so 0 place_column (outs name tree)

-- the SELECT of each table reads its seven columns in order of the first
pub select_parsed : (part : Part) → Selects (select_of part) (name_of part)
unfolding everything
select_parsed First = record {
  p = _;
  sel = _;
  core = _;
  so = _;
  a = _;
  b = _;
  c = _;
  d = _;
  e = _;
  f = _;
  g = _;
  of = record { parsed = refl; statement = refl; formats = refl };
  plain = record {
    with = refl;
    first = refl;
    others = refl;
    order = refl;
    limit = refl;
    offset =
        refl;
  };
  from = record {
    src = _;
    from = refl;
    plain = record { origin = refl; alias = refl; using = refl; on = refl; is_left = refl };
    shown = refl;
    filter = refl;
    group = refl;
    having = refl;
    distinct = refl;
  };
  places =
      λ tree. record {
        e = _;
        text = _;
        name = codes "pos";
        one = refl;
        is = refl;
        named =
            refl;
        has = refl;
      };
  kinds =
      λ tree. record {
        e = _;
        text = _;
        name = codes "kind";
        one = refl;
        is = refl;
        named =
            refl;
        has = refl;
      };
  senders =
      λ tree. record {
        e = _;
        text = _;
        name = codes "sender";
        one = refl;
        is = refl;
        named =
            refl;
        has = refl;
      };
  seqs =
      λ tree. record {
        e = _;
        text = _;
        name = codes "seq";
        one = refl;
        is = refl;
        named =
            refl;
        has = refl;
      };
  clients =
      λ tree. record {
        e = _;
        text = _;
        name = codes "client";
        one = refl;
        is = refl;
        named =
            refl;
        has = refl;
      };
  numbers =
      λ tree. record {
        e = _;
        text = _;
        name = codes "number";
        one = refl;
        is = refl;
        named =
            refl;
        has = refl;
      };
  payloads =
      λ tree. record {
        e = _;
        text = _;
        name = codes "payload";
        one = refl;
        is = refl;
        named =
            refl;
        has = refl;
      };
  order =
      λ tree. record {
        name = codes "pos";
        is = refl;
        descending = refl;
        nulls = refl;
        named =
            refl;
        has = refl;
        unaliased = refl;
      };
}
select_parsed Second = record {
  p = _;
  sel = _;
  core = _;
  so = _;
  a = _;
  b = _;
  c = _;
  d = _;
  e = _;
  f = _;
  g = _;
  of = record { parsed = refl; statement = refl; formats = refl };
  plain = record {
    with = refl;
    first = refl;
    others = refl;
    order = refl;
    limit = refl;
    offset =
        refl;
  };
  from = record {
    src = _;
    from = refl;
    plain = record { origin = refl; alias = refl; using = refl; on = refl; is_left = refl };
    shown = refl;
    filter = refl;
    group = refl;
    having = refl;
    distinct = refl;
  };
  places =
      λ tree. record {
        e = _;
        text = _;
        name = codes "pos";
        one = refl;
        is = refl;
        named =
            refl;
        has = refl;
      };
  kinds =
      λ tree. record {
        e = _;
        text = _;
        name = codes "kind";
        one = refl;
        is = refl;
        named =
            refl;
        has = refl;
      };
  senders =
      λ tree. record {
        e = _;
        text = _;
        name = codes "sender";
        one = refl;
        is = refl;
        named =
            refl;
        has = refl;
      };
  seqs =
      λ tree. record {
        e = _;
        text = _;
        name = codes "seq";
        one = refl;
        is = refl;
        named =
            refl;
        has = refl;
      };
  clients =
      λ tree. record {
        e = _;
        text = _;
        name = codes "client";
        one = refl;
        is = refl;
        named =
            refl;
        has = refl;
      };
  numbers =
      λ tree. record {
        e = _;
        text = _;
        name = codes "number";
        one = refl;
        is = refl;
        named =
            refl;
        has = refl;
      };
  payloads =
      λ tree. record {
        e = _;
        text = _;
        name = codes "payload";
        one = refl;
        is = refl;
        named =
            refl;
        has = refl;
      };
  order =
      λ tree. record {
        name = codes "pos";
        is = refl;
        descending = refl;
        nulls = refl;
        named =
            refl;
        has = refl;
        unaliased = refl;
      };
}

-- an INSERT of one row of parameters into the table of this name
pub record Puts (text name : List ℕ) : Type 0 where
  pub p : Parsed
  pub rows : Rows
  pub of : IsOfText text p (written.Insert conflict.Abort name [] rows [] [])
  pub made : (s : Schema) (tree : ℕ)
      → new_rows s (record_table name tree) (base_of p) [] rows ≡ Ok (Values terms 8)

-- CREATE TABLE IF NOT EXISTS of this name
pub record Makes (text name : List ℕ) : Type 0 where
  pub p : Parsed
  pub def : CreateTable
  pub parsed : first text ≡ Ok p
  pub statement : p.statement ≡ written.CreateTable def
  pub name_is : def.name ≡ name
  pub if_missing : def.if_missing ≡ true
  pub whole : (plan : List (List ℕ) × (Command × Option Returning))
      → text_of text (with_command p plan) ≡ text
  pub unlisted : if_select (compiled listing_schema text) ≡ Err NoSuchTable
  pub defines : table_defined_by text ≡ Ok (record_table name 0)
  pub itself : same_name name name ≡ true

-- the CREATE of each table is a CREATE TABLE IF NOT EXISTS of the table's name
pub create_parsed : (part : Part) → Makes (create_of part) (name_of part)
unfolding everything listing_schema Rattle.sqlite_schema.specs.Names.same_name
create_parsed First = record {
  p = _;
  def = _;
  parsed = refl;
  statement = refl;
  name_is =
      refl;
  if_missing = refl;
  whole = λ plan. refl;
  unlisted = refl;
  defines = refl;
  itself = refl;
}
create_parsed Second = record {
  p = _;
  def = _;
  parsed = refl;
  statement = refl;
  name_is = refl;
  if_missing = refl;
  whole =
      λ plan. refl;
  unlisted = refl;
  defines = refl;
  itself = refl;
}

-- the INSERT of a record puts one row of parameters into the second table
pub insert_parsed : Puts insert_text second_name
unfolding everything
insert_parsed = record {
  p = _;
  rows = _;
  of =
      record { parsed = refl; statement = refl; formats = refl };
  made = λ s tree. refl;
}

-- ---- under a schema that has the table

-- a table of records is at this place of the schema, under this name
pub record FoundTable (s : Schema) (name : List ℕ) : Type 0 where
  pub at : ℕ
  pub named : table_named s name ≡ Some at
  pub there : slice_get s.tables at ≡ Some (record_table name (tree_of s name))

-- a table of records has a place in the schema, and is found there by its name
pub found_at : (s : Schema) (name : List ℕ) → HasTable s name → FoundTable s name
found_at s name has = go (table_named s name) refl has.there
  where
    go : (o : Option ℕ) → table_named s name ≡ o
        → option_and_then (slice_get s.tables) o ≡ Some (record_table name (tree_of s name))
        → FoundTable s name
    go None is there = absurd (let e = there in cc)
    go (Some at) is there = record { at = at; named = is; there = there }

outputs_are : (s : Schema) (text name : List ℕ) (tree at : ℕ)
    (there : slice_get s.tables at ≡ Some (record_table name tree)) (h : Selects text name)
    → outputs lower (over s at (record_table name tree) there name [] true)
    (bound_to s at (record_table name tree) there name ∷ [])
    (h.a ∷ h.b ∷ h.c ∷ h.d ∷ h.e ∷ h.f ∷ h.g ∷ []) (quiet 2 max_budget nothing)
    ≡ Ok (outs name tree, quiet 2 99993 (declared (record_table name tree) 6 payload_column))
unfolding outputs
outputs_are s text name tree at there h =
    let t = record_table name tree in
    let tables = bound_to s at t there name ∷ [] in
    let more = outputs_more s at t there name tables in
    more [] h.a (h.b ∷ h.c ∷ h.d ∷ h.e ∷ h.f ∷ h.g ∷ []) 0 place_column 2 100000 nothing
    (h.places tree) refl
    ∙ more (out t 0 place_column ∷ []) h.b (h.c ∷ h.d ∷ h.e ∷ h.f ∷ h.g ∷ []) 1
    (integer (codes "kind")) 2 99999 (declared t 0 place_column) (h.kinds tree) refl
    ∙ more (out t 0 place_column ∷ out t 1 (integer (codes "kind")) ∷ []) h.c
    (h.d ∷ h.e ∷ h.f ∷ h.g ∷ []) 2 (integer (codes "sender")) 2 99998
    (declared t 1 (integer (codes "kind"))) (h.senders tree) refl
    ∙ more (out t 0 place_column ∷ out t 1 (integer (codes "kind")) ∷ out t 2
    (integer (codes "sender")) ∷ []) h.d (h.e ∷ h.f ∷ h.g ∷ []) 3
    (integer (codes "seq")) 2 99997 (declared t 2 (integer (codes "sender"))) (h.seqs tree) refl
    ∙ more (out t 0 place_column ∷ out t 1 (integer (codes "kind")) ∷ out t 2
    (integer (codes "sender")) ∷ out t 3 (integer (codes "seq")) ∷ []) h.e (h.f ∷ h.g ∷ []) 4
    (integer (codes "client")) 2 99996 (declared t 3 (integer (codes "seq")))
    (h.clients tree) refl
    ∙ more (out t 0 place_column ∷ out t 1 (integer (codes "kind")) ∷ out t 2
    (integer (codes "sender")) ∷ out t 3 (integer (codes "seq")) ∷ out t 4
    (integer (codes "client")) ∷ []) h.f (h.g ∷ []) 5 (integer (codes "number")) 2 99995
    (declared t 4 (integer (codes "client"))) (h.numbers tree) refl
    ∙ more (out t 0 place_column ∷ out t 1 (integer (codes "kind")) ∷ out t 2
    (integer (codes "sender")) ∷ out t 3 (integer (codes "seq")) ∷ out t 4
    (integer (codes "client")) ∷ out t 5 (integer (codes "number")) ∷ []) h.g
    [] 6 payload_column 2 99994 (declared t 5 (integer (codes "number"))) (h.payloads tree) refl

-- the query of the seven columns of the table in this tree, in order of pos
abbrev pub query : ℕ → Query
query tree = record {
  from = inner tree end;
  filter = [];
  group = None;
  project = col 1 0 ∷ col 1 2 ∷ col 1 3 ∷ col 1 4 ∷ col 1 5 ∷ col 1 6 ∷ col 1 7 ∷ [];
  distinct = false;
  collations = [];
  order = (col 1 0, record { collation = Binary; descending = false }) ∷ [];
  limit = lit (Int (negsuc 0));
  offset = lit (Int (pos 0));
}

-- the names of the seven columns
abbrev pub names : List (List ℕ)
names =
    codes "pos" ∷ codes "kind" ∷ codes "sender" ∷ codes "seq" ∷ codes "client" ∷ codes "number"
    ∷ codes "payload" ∷ []

query_is : (s : Schema) (name : List ℕ) (tree at : ℕ)
    (there : slice_get s.tables at ≡ Some (record_table name tree))
    → query_of (draft_of s at (record_table name tree) there
    (outs name tree) 0 place_column no_page) ≡ query tree
unfolding everything
query_is s name tree at there = refl

typed : (s : Schema) (name : List ℕ) (tree : ℕ)
    → find (λ (t : Table). t.tree == tree) s.tables ≡ Some (record_table name tree)
    → nat_le (2 ^ 31) tree ≡ false → accepts_program s [] (query tree) [] ≡ true
typed s name tree alone stored = rw (stored, alone) refl

selected : (s : Schema) (text name : List ℕ) → HasTable s name → Selects text name
    → (p : Parsed) × (compiled s text ≡ Ok
    (with_command p (
      [],
      (
        command.Select
            (record { lets = []; body = query (tree_of s name) }) names,
        None,
      ),
    )))
selected s text name has h =
    let it = found_at s name has in
    let tree = tree_of s name in
    let t = record_table name tree in
    let named =
    named_is s it.at t it.there h.core name _
    (outs name tree) h.so 0 place_column 99993 _ no_page h.from it.named
    (outputs_are s text name tree it.at it.there h) (h.order tree) refl in
    let is = query_is s name tree it.at it.there in
    let accepted =
    ap (λ q. accepts_program s [] q []) is ∙ typed s name tree has.alone has.stored in
    let made =
    read_is s text h.p h.sel h.core name _ h.so _ _ _ h.of h.plain h.from named accepted in (
      h.p,
      made ∙ ap (λ q. Ok (with_command h.p
          ([], (command.Select (record { lets = []; body = q }) names, None)))) is,
    )

-- under this schema, the text is a query of the seven columns of the table in this tree
pub record IsSelected (s : Schema) (text : List ℕ) (tree : ℕ) : Type 0 where
  pub command_is : command_of (understood s text) ≡ command.Select
      (record { lets = []; body = query tree }) names
  pub unlisted : reads_listing s text ≡ false
  pub plain : IsPlain (understood s text)

-- the SELECT reads the table of the name
pub select_is : (s : Schema) (text name : List ℕ) → HasTable s name → Selects text name
    → IsSelected s text (tree_of s name)
select_is s text name has h =
    let it = selected s text name has h in
    let known = understood_is s text _ it.1 in
    record {
      command_is = ap command_of known.0;
      unlisted = known.1;
      plain =
          subst IsPlain (sym known.0) (refl, refl);
    }

-- under this schema, the text is an INSERT of one row into the table of this name
pub record IsInserted (s : Schema) (text name : List ℕ) : Type 0 where
  pub at : ℕ
  pub there : slice_get s.tables at ≡ Some (record_table name (tree_of s name))
  pub command_is : command_of (understood s text) ≡ command.Insert at (Values terms 8)
  pub plain : IsPlain (understood s text)

-- the INSERT puts a row into the table of the name
pub insert_is : (s : Schema) (text name : List ℕ) → HasTable s name → Puts text name
    → IsInserted s text name
insert_is s text name has h =
    let it = found_at s name has in
    let t = record_table name (tree_of s name) in
    let known =
    understood_is s text _ (inserted_is s text h.p name h.rows it.at t
    (Values terms 8) h.of it.named it.there refl (h.made s (tree_of s name))) in
    record {
      at = it.at;
      there = it.there;
      command_is = ap command_of known.0;
      plain =
          subst IsPlain (sym known.0) (refl, refl);
    }
