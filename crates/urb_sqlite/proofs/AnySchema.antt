-- What INSERT, DELETE, SELECT and CREATE are under a schema that is not known, and CREATE under one
-- that has the table.
use Rattle.urb_sqlite.proofs.Common.{Bool, Compiled, Err, HasTable, Insert, List, NoSuchTable, None}
use Rattle.urb_sqlite.proofs.Common.{Ok, Option, Parsed, Returning, Rows, Some, [], and_then, ap}
use Rattle.urb_sqlite.proofs.Common.{cases_Bool, compiled, cond, false, first, if_select}
use Rattle.urb_sqlite.proofs.Common.{index_named, inl, inr, is_some, listing_schema, new_rows}
use Rattle.urb_sqlite.proofs.Common.{reads_listing, refl, subst, sym, table_named, text_of, true}
use Rattle.urb_sqlite.proofs.Common.{understood, view_named, with_command, ℕ, ◌&&◌, ◌+◌, ◌==◌, ◌∙◌}
use Rattle.urb_sqlite.proofs.Common.{◌≡◌, ◌⊎◌}
use Rattle.sqlite.specs.Schema.{Schema}
use Rattle.sqlite_schema.specs.declared.command.Source.{Source}
use Rattle.sqlite.specs.Command.{Command}
use Rattle.sqlite.specs.Command.TheVariants.{CreateTable, Delete, Nothing}
use Rattle.sqlite_schema.specs.declared.program.Program.{Program}
use Rattle.sqlite_ast.specs.declared.Expr.{Expr}
use Rattle.sqlite_resolve.specs.Write.{deleted}
use Rattle.sqlite_resolve.specs.Program.{program}
use Rattle.urb_sqlite.proofs.DeleteStatement.{Takes}
use Rattle.std.specs.Option.{option_or}
use Rattle.sqlite_resolve.specs.Lowering.{Checked}
use Rattle.sqlite_resolve.specs.Body.{table_at}
use Rattle.sqlite.specs.Table.{Table}
use Rattle.sqlite_resolve.specs.Compile.{command, create_table, creates, delete, insert}
use Rattle.sqlite_resolve.specs.Compile.{insert_or_abort}
use Rattle.sqlite_resolve.specs.Compile.{is_attached, is_reserved, meaning, planned, returning}
use Rattle.sqlite_resolve.specs.Compile.{shows, small, target, timed}
use Rattle.sqlite.specs.Listing.{is_select}
use Rattle.sqlite_resolve.specs.declared.error.CompileError.TheVariants.{Exists, Misuse}
use Rattle.sqlite_resolve.specs.declared.error.CompileError.TheVariants.{Unsupported}
use Rattle.urb_sqlite.proofs.StatementTexts.{Makes, Puts, Selects, found_at}
use Rattle.sqlite_ast.specs.declared.CreateTable as ast
use Rattle.sqlite_ast.specs.declared.Statement.TheVariants as written
use Rattle.sqlite_ast.specs.declared.Conflict.TheVariants as conflict
use Rattle.sqlite_resolve.specs.Define as define

-- if a checked step gave a value, each of its parts gave one
gone : {A B : Type 0} (r : Checked A) (f : A → Checked B) (b : B) → and_then r f ≡ Ok b
    → (a : A) × (r ≡ Ok a) × (f a ≡ Ok b)
gone (Ok a) f b h = (a, refl, h)
gone (Err e) f b h = absurd (let n = h in cc)

-- the command of a compiled text, and what it returns, by its statement
pub record Means (s : Schema) (p : Parsed) (c : Compiled) : Type 0 where
  pub plan : List (List ℕ) × (Command × Option Returning)
  pub is : with_command p plan ≡ c
  pub formats : List (List ℕ)
  pub base : ℕ
  pub command_is : command s formats base p.statement ≡ Ok c.command
  pub returning_is : returning s base p.statement ≡ Ok c.returning

compiled_means : (s : Schema) (text : List ℕ) (p : Parsed) → first text ≡ Ok p → (c : Compiled)
    → compiled s text ≡ Ok c → Means s p c
unfolding compiled planned meaning
compiled_means s text p parsed c h =
    let from =
    subst (λ (r : Checked Parsed).
    and_then r (λ p. and_then (planned s p) (λ plan. Ok (with_command p plan))) ≡ Ok c)
    parsed h in
    let formats = timed s p.formats p.statement in
    let base = small p.names + small formats in
    let plan = gone (planned s p) (λ plan. Ok (with_command p plan)) c from in
    let all : Ok (with_command p plan.0) ≡ Ok c = plan.2 in
    let is : with_command p plan.0 ≡ c = cc in
    let found = gone (meaning s p base) (λ found. Ok (formats, found)) plan.0 plan.1 in
    let both : (formats, found.0) ≡ plan.0 = let e = found.2 in cc in
    let shown =
    gone (returning s base p.statement)
    (λ shown. and_then (command s p.formats base p.statement) (λ made. Ok (made, shown)))
    found.0 found.1 in
    let made =
    gone (command s p.formats base p.statement) (λ made. Ok (made, shown.0)) found.0 shown.2 in
    let pair : (made.0, shown.0) ≡ found.0 = let e = made.2 in cc in
    let as_made : made.0 ≡ c.command =
    ap (λ (it : Command × Option Returning). it.0) pair
    ∙ ap (λ (it : List (List ℕ) × (Command × Option Returning)). it.1.0) both
    ∙ ap (λ (it : Compiled). it.command) is in
    let as_shown : shown.0 ≡ c.returning =
    ap (λ (it : Command × Option Returning). it.1) pair
    ∙ ap (λ (it : List (List ℕ) × (Command × Option Returning)). it.1.1) both
    ∙ ap (λ (it : Compiled). it.returning) is in
    record {
      plan = plan.0;
      is = is;
      formats = p.formats;
      base = base;
      command_is = made.1 ∙ ap Ok as_made;
      returning_is = shown.1 ∙ ap Ok as_shown;
    }

-- a text that is understood means what its statement means under some schema
pub understood_means : (s : Schema) (text : List ℕ) (p : Parsed) → first text ≡ Ok p
    → (c : Compiled) → understood s text ≡ Ok c → (at : Schema) × Means at p c
unfolding understood
understood_means s text p parsed c h = elim (cases_Bool (reads_listing s text)) [
  | inl listing ↦ (
    listing_schema,
    compiled_means listing_schema text p parsed c
        (selected (compiled listing_schema text) (rw listing at h)),
  )
  | inr plain ↦ (s, compiled_means s text p parsed c (rw plain at h))
]
  where
    chosen : (b : Bool) (x : Compiled)
        → ◌≡◌ {A = Checked Compiled} (cond b (Ok x) (Err NoSuchTable)) (Ok c)
        → ◌≡◌ {A = Checked Compiled} (Ok x) (Ok c)
    chosen true x e = e
    chosen false x e = absurd (let n = e in cc)

    selected : (r : Checked Compiled) → if_select r ≡ Ok c → r ≡ Ok c
    selected (Ok x) e = chosen (is_select x.command) x e
    selected (Err e) n = absurd (let m = n in cc)

-- ---- INSERT, DELETE and SELECT

abbrev IsInsert : Command → Type 0
IsInsert command = (at : ℕ) × (from : Source) × (command ≡ Insert at from)

insert_means : (s : Schema) (formats : _) (base : ℕ) (name : List ℕ) (rows : Rows) (c : Command)
    → command s formats base (written.Insert conflict.Abort name [] rows [] []) ≡ Ok c → IsInsert c
unfolding command insert_or_abort insert
insert_means s formats base name rows c h =
    let made : ℕ → Table → Source → Checked Command = λ at table from. Ok (Insert at from) in
    let at =
    gone (target s name) (λ at. and_then (table_at s at)
    (λ table. and_then (new_rows s table base [] rows) (made at table))) c h in
    let table =
    gone (table_at s at.0) (λ table. and_then (new_rows s table base [] rows) (made at.0 table))
    c at.2 in
    let from = gone (new_rows s table.0 base [] rows) (made at.0 table.0) c table.2 in
    (at.0, from.0, let e : Insert at.0 from.0 ≡ c = let m = from.2 in cc in sym e)

abbrev IsDelete : Command → Type 0
IsDelete command = (at : ℕ) × (q : Program) × (command ≡ Delete at q)

-- the command of a DELETE deletes rows
delete_means : (s : Schema) (formats : _) (base : ℕ) (name : List ℕ) (e : Expr) (c : Command)
    → command s formats base (written.Delete name (Some e) []) ≡ Ok c → IsDelete c
unfolding command delete
delete_means s formats base name e c h =
    let made : ℕ → Program → Checked Command = λ at q. Ok (Delete at q) in
    let at =
    gone (target s name) (λ at. and_then (table_at s at)
    (λ table. and_then (deleted s at table (Some e)) (λ d. and_then (program s [] d) (made at))))
    c h in
    let table =
    gone (table_at s at.0)
    (λ table. and_then (deleted s at.0 table (Some e)) (λ d. and_then (program s [] d) (made at.0)))
    c at.2 in
    let draft =
    gone (deleted s at.0 table.0 (Some e)) (λ d. and_then (program s [] d) (made at.0)) c table.2 in
    let q = gone (program s [] draft.0) (made at.0) c draft.2 in
    (at.0, q.0, let e : Delete at.0 q.0 ≡ c = let m = q.2 in cc in sym e)

-- a DELETE without RETURNING shows no rows
bare_delete : (s : Schema) (base : ℕ) (name : List ℕ) (e : Expr)
    → returning s base (written.Delete name (Some e) []) ≡ Ok None
unfolding returning shows
bare_delete s base name e = refl

bare_insert : (s : Schema) (base : ℕ) (name : List ℕ) (rows : Rows)
    → returning s base (written.Insert conflict.Abort name [] rows [] []) ≡ Ok None
unfolding returning shows
bare_insert s base name rows = refl

bare_select : (s : Schema) (base : ℕ) (query : _)
    → returning s base (written.Select query) ≡ Ok None
unfolding returning
bare_select s base query = refl

-- Whatever the schema is, an INSERT inserts, and shows no rows.
pub inserts_in_any : (text name : List ℕ) → Puts text name → (s : Schema) (c : Compiled)
    → understood s text ≡ Ok c → IsInsert c.command × (c.returning ≡ None)
inserts_in_any text name parsed s c h =
    let it = understood_means s text parsed.p parsed.of.parsed c h in
    let m = it.1 in
    let none : Ok c.returning ≡ Ok None =
    sym m.returning_is ∙ ap (returning it.0 m.base) parsed.of.statement
    ∙ bare_insert it.0 m.base name parsed.rows in (
      insert_means it.0 m.formats m.base name parsed.rows c.command
          (ap (command it.0 m.formats m.base) (sym parsed.of.statement) ∙ m.command_is),
      cc,
    )

-- Whatever the schema is, a DELETE deletes, and shows no rows.
pub deletes_in_any : (text name : List ℕ) → Takes text name → (s : Schema) (c : Compiled)
    → understood s text ≡ Ok c → IsDelete c.command × (c.returning ≡ None)
deletes_in_any text name parsed s c h =
    let it = understood_means s text parsed.p parsed.of.parsed c h in
    let m = it.1 in
    let none : Ok c.returning ≡ Ok None =
    sym m.returning_is ∙ ap (returning it.0 m.base) parsed.of.statement
    ∙ bare_delete it.0 m.base name parsed.e in (
      delete_means it.0 m.formats m.base name parsed.e c.command
          (ap (command it.0 m.formats m.base) (sym parsed.of.statement) ∙ m.command_is),
      cc,
    )

-- Whatever the schema is, a SELECT only reads.
pub reads_in_any : (text name : List ℕ) → Selects text name → (s : Schema) (c : Compiled)
    → understood s text ≡ Ok c → c.returning ≡ None
reads_in_any text name parsed s c h =
    let it = understood_means s text parsed.p parsed.of.parsed c h in
    let m = it.1 in
    let none : Ok c.returning ≡ Ok None =
    sym m.returning_is ∙ ap (returning it.0 m.base) parsed.of.statement
    ∙ bare_select it.0 m.base parsed.sel in
    cc

-- ---- CREATE TABLE IF NOT EXISTS

-- a name that a table has is not new
is_not_new : (reserved other if_missing : Bool) (b : Bool)
    → cond reserved (Err Misuse) (cond other (Err Exists) (cond if_missing (Ok false) (Err Exists)))
    ≡ Ok b → b ≡ false
is_not_new true other if_missing b h = absurd (let n = h in cc)
is_not_new false true if_missing b h = absurd (let n = h in cc)
is_not_new false false true b h = let e = h in cc
is_not_new false false false b h = absurd (let n = h in cc)

-- the outcome of a CREATE
abbrev Created : Command → Type 0
Created c = (c ≡ Nothing) ⊎ (c ≡ CreateTable)

module _ (s : Schema) (formats : List (List ℕ)) (def : ast.CreateTable) (c : Command) where
  after : Bool → Checked Command
  after is_new =
      cond is_new (and_then (define.table formats def)
      (λ t. cond ((Rattle.std.specs.Prelude.length t.computed
      == Rattle.std.specs.Prelude.length t.stamps.places)
      && Rattle.std.specs.Prelude.not def.resolves) (Ok CreateTable) (Err Unsupported)))
      (Ok Nothing)

  is_new : Checked Bool
  is_new =
      creates def.if_missing def.name (option_or (table_named s def.name) (view_named s def.name))
      (index_named s def.name)

  made : (b : Bool) → cond b (Ok CreateTable) (Err Unsupported) ≡ Ok c → c ≡ CreateTable
  made true e = let n = e in cc
  made false e = absurd (let n = e in cc)

  ended : (b : Bool) → after b ≡ Ok c → ((b ≡ false) × (c ≡ Nothing)) ⊎ (c ≡ CreateTable)
  unfolding after
  ended true e =
      let it = gone (define.table formats def)
      (λ t. cond ((Rattle.std.specs.Prelude.length t.computed
      == Rattle.std.specs.Prelude.length t.stamps.places)
      && Rattle.std.specs.Prelude.not def.resolves) (Ok CreateTable) (Err Unsupported)) c e in
      inr (made _ it.2)
  ended false e = inl (refl, let n = e in cc)

  split : (attached : Bool) → cond attached (Err Unsupported) (and_then is_new after) ≡ Ok c
      → (b : Bool) × (is_new ≡ Ok b) × (after b ≡ Ok c)
  split true e = absurd (let n = e in cc)
  split false e = gone is_new after c e

  parts : create_table s formats def ≡ Ok c → (b : Bool) × (is_new ≡ Ok b) × (after b ≡ Ok c)
  unfolding create_table after is_new
  parts h = split (is_attached s def.name) h

  -- a CREATE TABLE that compiles creates a table, or does nothing
  pub create_any : create_table s formats def ≡ Ok c → Created c
  create_any h =
      let it = parts h in elim (ended it.0 it.2) [ inl none ↦ inl none.1 | inr made ↦ inr made ]

  old : (o : Option ℕ) (at : ℕ) → o ≡ Some at → (b : Bool)
      → creates def.if_missing def.name (option_or o (view_named s def.name))
      (index_named s def.name) ≡ Ok b → b ≡ false
  unfolding creates
  old o at is b found =
      is_not_new (is_reserved def.name) (is_some (index_named s def.name)) def.if_missing b
      (subst (λ (o : Option ℕ). creates def.if_missing def.name
      (option_or o (view_named s def.name)) (index_named s def.name) ≡ Ok b) is found)

  none_made : (b : Bool) → b ≡ false → after b ≡ Ok c → c ≡ Nothing
  unfolding after
  none_made true h e = absurd (let n = h in cc)
  none_made false h e = let n = e in cc

  -- a CREATE TABLE that compiles does nothing if a table has its name
  pub create_none : (at : ℕ) → table_named s def.name ≡ Some at → create_table s formats def ≡ Ok c
      → c ≡ Nothing
  unfolding is_new
  create_none at named h =
      let it = parts h in none_made it.0 (old (table_named s def.name) at named it.0 it.1) it.2

create_command : (s : Schema) (formats : List (List ℕ)) (base : ℕ) (def : ast.CreateTable)
    → command s formats base (written.CreateTable def) ≡ create_table s formats def
unfolding command
create_command s formats base def = refl

bare_create : (s : Schema) (base : ℕ) (def : ast.CreateTable)
    → returning s base (written.CreateTable def) ≡ Ok None
unfolding returning
bare_create s base def = refl

none_listed : (text name : List ℕ) → Makes text name → (c : Compiled)
    → ¬ (if_select (compiled listing_schema text) ≡ Ok c)
none_listed text name parsed c e =
    absurd (let n : Err NoSuchTable ≡ Ok c = sym parsed.unlisted ∙ e in cc)

-- the CREATE is plain, whatever its outcome
pub record IsCreate (s : Schema) (text name : List ℕ) (c : Compiled) : Type 0 where
  pub returning_is : c.returning ≡ None
  pub whole : text_of text c ≡ text
  pub comes_to : Created c.command
  pub leaves : HasTable s name → c.command ≡ Nothing

-- Whatever the schema is, CREATE TABLE IF NOT EXISTS shows no rows, and creates a table or does
-- nothing.
pub create_is : (text name : List ℕ) → Makes text name → (s : Schema) (c : Compiled)
    → understood s text ≡ Ok c → IsCreate s text name c
unfolding understood
create_is text name parsed s c h = elim (cases_Bool (reads_listing s text)) [
  | inl listing ↦ absurd (none_listed text name parsed c (rw listing at h))
  | inr plain ↦ plainly (compiled_means s text parsed.p parsed.parsed c (rw plain at h))
]
  where
    plainly : Means s parsed.p c → IsCreate s text name c
    plainly m =
        let none : Ok c.returning ≡ Ok None =
        sym m.returning_is ∙ ap (returning s m.base) parsed.statement
        ∙ bare_create s m.base parsed.def in
        let made =
        sym (create_command s m.formats m.base parsed.def)
        ∙ ap (command s m.formats m.base) (sym parsed.statement) ∙ m.command_is in
        record {
          returning_is = cc;
          whole = ap (text_of text) (sym m.is) ∙ parsed.whole m.plan;
          comes_to = create_any s m.formats parsed.def c.command made;
          leaves =
              λ has. let it = found_at s name has in
              create_none s m.formats parsed.def c.command it.at
              (ap (table_named s) parsed.name_is ∙ it.named) made;
        }
