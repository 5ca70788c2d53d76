-- A call that leaves the connection open found it open, and a refused one leaves the rows.
use Rattle.std.proofs.Common.{◌≡◌, ◌⊎◌, inl, inr, ℕ, List, Bool, true, false, Option, Some, None, Ok, Err, Result, IsTrue, sym, ap, subst, ◌∙◌, arith}
use Rattle.std.proofs.Common.{MatchBool}
use Rattle.sqlite.specs.Command.{Command}
use Rattle.sqlite.specs.Command.TheVariants.{Select, Insert, InsertOr, Update, Delete, CreateTable, CreateIndex, DropTable, DropIndex, Begin, Commit, Rollback}
use Rattle.sqlite.specs.Command.TheVariants.{Savepoint as Save, Release, RollbackTo, Nothing, CreateView, DropView, Rows}
use Rattle.sqlite.specs.{Effect.Database, Order.Row, State.State, State.IsUnchanged, State.IsRolledBack, State.Runs}
use Rattle.sqlite.specs.State.{RunsCommand, IsNotRun, ExecutesIn, Executes, shows_rows, FailsToShow, FailsToQuery, ShowsRows, Shown, Survives, HasCleanDisk}
use Rattle.sqlite.specs.{Tree.Trees, declared.error.Error.Error}
use Rattle.sqlite_schema.specs.declared.command.Returning.{Returning}
use Rattle.dali_script.specs.declared.records.Record.{Record}
use Rattle.dali_sqlite.specs.Stored.{HasTable, Holds, Lists, IsUp}

-- nothing is written: the transaction goes on, or is undone
abbrev pub Stays : State → State → Type 0
Stays old new = IsUnchanged old new ⊎ IsRolledBack old new

pub stays_open : (old new : State) → Stays old new → IsTrue new.is_open → IsTrue old.is_open
stays_open old new (inl same) up = same.0.was_open
stays_open old new (inr undone) up = undone.was_open up

runs_open : (old new : State) (returning : Option Returning) (command : Command) (text : List ℕ) (params : Row) (count : ℕ)
    → Runs old new returning command text params count
    → IsTrue new.is_open → IsTrue old.is_open
runs_open old new returning (Select q names) text params count h up = absurd h
runs_open old new returning (Insert at from) text params count h up = h.shown.was_open
runs_open old new returning (InsertOr at how from clauses) text params count h up = h.shown.was_open
runs_open old new returning (Update at q) text params count h up = h.shown.was_open
runs_open old new returning (Delete at q) text params count h up = h.shown.was_open
runs_open old new returning CreateTable text params count h up = h.shown.was_open
runs_open old new returning (CreateIndex at) text params count h up = h.shown.was_open
runs_open old new returning (DropTable at) text params count h up = h.shown.was_open
runs_open old new returning (DropIndex at) text params count h up = h.shown.was_open
runs_open old new returning Begin text params count h up = h.1.was_open
runs_open old new returning Commit text params count h up = h.1.was_open
runs_open old new returning Rollback text params count h up = h.1.was_open up
runs_open old new returning (Save name) text params count h up = h.0.0.was_open
runs_open old new returning (Release name) text params count h up = elim (h.2) [ inl all ↦ all.1.0.was_open | inr some ↦ some.1.0.was_open ]
runs_open old new returning (RollbackTo name) text params count h up = h.2.2.was_open
runs_open old new returning (Rows values width names) text params count h up = h.0.0.was_open
runs_open old new returning Nothing text params count h up = h.0.0.was_open
runs_open old new returning CreateView text params count h up = h.shown.was_open
runs_open old new returning (DropView at) text params count h up = h.shown.was_open

command_stays : (old new : State) (sql : List ℕ) (c : _) (params : Row) (e : Error) → RunsCommand old new sql c params (Err e) → Stays old new
command_stays old new sql c params e (inl refused) = inl refused.1
command_stays old new sql c params e (inr failed) = inr failed.3

not_run_stays : (old new : State) (sql : List ℕ) (params : Row) (e : Error) → IsNotRun old new sql params e → Stays old new
unfolding IsNotRun
not_run_stays old new sql params e (inl none) = inl none.1
not_run_stays old new sql params e (inr failed) = inr failed.3

alone_stays : (b : Bool) (old new : State) (sql : List ℕ) (c : _) (params : Row) (e : Error) (A : Type 0)
    → MatchBool b (A × IsUnchanged old new) (RunsCommand old new sql c params (Err e)) → Stays old new
alone_stays true old new sql c params e A h = inl h.1
alone_stays false old new sql c params e A h = command_stays old new sql c params e h

alone_open : (b : Bool) (old new : State) (sql : List ℕ) (c : _) (params : Row) (count : ℕ) (A : Type 0)
    → MatchBool b (A × IsUnchanged old new) (RunsCommand old new sql c params (Ok count)) → IsTrue new.is_open → IsTrue old.is_open
alone_open true old new sql c params count A h up = h.1.0.was_open
alone_open false old new sql c params count A h up = runs_open old new c.returning c.command _ params count h up

pub executes_stays : (sql : List ℕ) (params : Row) (old new : State) (e : Error) → Executes sql params old new (Err e) → Stays old new
unfolding ExecutesIn
executes_stays sql params old new e (inl none) = not_run_stays old new sql params e none
executes_stays sql params old new e (inr ran) = alone_stays (shows_rows false ran.0) old new sql ran.0 _ e _ ran.2

pub executes_open : (sql : List ℕ) (params : Row) (old new : State) (r : Result ℕ Error) → Executes sql params old new r → IsTrue new.is_open
    → IsTrue old.is_open
unfolding ExecutesIn
executes_open sql params old new (Ok count) ran up = alone_open (shows_rows false ran.0) old new sql ran.0 _ count _ ran.2 up
executes_open sql params old new (Err e) h up = stays_open old new (executes_stays sql params old new e h) up

fails_to_show : (old new : State) (sql : List ℕ) (c : _) (params : Row) (e : Error) (returning : Option Returning)
    → FailsToShow old new sql c params e returning → Stays old new
fails_to_show old new sql c params e None h = inl h.3
fails_to_show old new sql c params e (Some what) h = command_stays old new sql c params e h

pub query_stays : (sql : List ℕ) (params : Row) (old new : State) (e : Error) → FailsToQuery sql params old new e → Stays old new
unfolding FailsToQuery
query_stays sql params old new e (inl none) = not_run_stays old new sql params e none
query_stays sql params old new e (inr ran) = fails_to_show old new sql ran.0 _ e ran.0.returning ran.2

shows_open : (old new : State) (sql : List ℕ) (c : _) (params : Row) (rows : List Row) (returning : Option Returning)
    → ShowsRows old new sql c params rows returning → IsTrue old.is_open
shows_open old new sql c params rows None h = h.3.0.was_open
shows_open old new sql c params rows (Some what) h = h.1.shown.was_open

pub shown_open : (sql : List ℕ) (params : Row) (old new : State) (rows : List Row) → Shown sql params old new rows → IsTrue old.is_open
unfolding Shown
shown_open sql params old new rows h = shows_open old new sql h.0 _ rows h.0.returning h.2

pub was_up : (old new : State) (P : Trees → Type 0) → Survives old new P → (HasCleanDisk new → IsTrue new.is_open → IsTrue old.is_open) → IsUp new → IsUp old
was_up old new P survives opened up = (omega (arith, survives.clean, up.0), opened up.0 up.1)

-- what shows the same, and has committed it, holds the same
pub same_has : (old new : State) → new.now ≡ old.now → new.committed ≡ old.now → new.in_transaction ≡ false → HasTable old → HasTable new
same_has old new now committed autocommit has =
    record { table = ap (λ (d : Database). d.schema) now ∙ has.table; autocommit = autocommit; committed = now ∙ sym committed }

pub stays_same : (old new : State) → Stays old new → IsTrue new.is_open → old.in_transaction ≡ false → old.now ≡ old.committed
    → (new.now ≡ old.now) × (new.committed ≡ old.now) × (new.in_transaction ≡ false)
stays_same old new (inl same) up autocommit committed = (same.0.now_is, same.0.committed_is ∙ sym committed, same.0.mode ∙ autocommit)
stays_same old new (inr undone) up autocommit committed = ((undone.undone up).0 ∙ sym committed, (undone.undone up).1 ∙ sym committed, undone.autocommit)

pub stays_has : (old new : State) → Stays old new → IsTrue new.is_open → HasTable old → (new.now ≡ old.now) × HasTable new
stays_has old new stays up has =
    let same = stays_same old new stays up has.autocommit has.committed in (same.0, same_has old new same.0 same.1 same.2 has)

pub stays_holds : (old new : State) → Stays old new → IsTrue new.is_open → (xs : List Record) → Holds old xs → Holds new xs
stays_holds old new stays up xs held =
    let same = stays_has old new stays up held.has in
    record { has = same.1; rows = subst (λ (d : Database). Lists d.trees xs) (sym same.0) held.rows }
