use Rattle.std.specs.Prelude.{◌≡◌, ℕ, pos, Bool, true, false, List, [], ◌∷◌, ◌++◌}
use Rattle.std.specs.Prelude.{Option, Some, None}
use Rattle.std.specs.Borrow.{Bor}
use Rattle.clap.specs.declared.builder.action.ArgAction.{ArgAction}
use Rattle.clap.specs.declared.builder.action.ArgAction.TheVariants.{Set, SetTrue, Append}
use Rattle.clap.specs.declared.builder.arg.Arg.{Arg}
use Rattle.clap.specs.declared.builder.value_parser.ValueParser.{ValueParser}
use Rattle.clap.specs.declared.builder.value_parser.ValueParser.TheVariants as parser
use Rattle.clap.specs.declared.builder.command.Command.{Command}
use Rattle.clap.specs.Built.{AddsArg, AddsSubcommand, AddsInTurn}
use Rattle.clap.specs.Texts.{items_of}
use Rattle.dali_words.specs.declared.program.Value.{Value}
use Rattle.dali_words.specs.declared.program.Value.TheVariants as value
use Rattle.dali_words.specs.declared.program.WordKind.{WordKind}
use Rattle.dali_words.specs.declared.program.WordKind.TheVariants as kind
use Rattle.dali_words.specs.declared.program.Subcommand.{Subcommand}
use Rattle.dali_words.specs.declared.program.Word.{Word}

-- WHICH WORDS have to be there
abbrev pub is_needed : WordKind → Bool
is_needed (kind.Needed v) = true
is_needed kind.NeededAgain = true
is_needed (kind.Place v) = true
is_needed kind.Places = true
is_needed _ = false

-- what a use of a word does: a flag is there, a value is kept, or it is kept beside the others
abbrev pub action_of : WordKind → ArgAction
action_of kind.Flag = SetTrue
action_of (kind.NotBeside other) = SetTrue
action_of kind.Again = Append
action_of kind.NeededAgain = Append
action_of kind.Places = Append
action_of _ = Set

-- WHICH VALUES a word may have: what `clap` tests each for, beside any text
abbrev pub tested : Value → Option ValueParser
tested value.Text = None
tested (value.Among these) = Some (parser.Names these)
tested value.Count = Some (parser.Signed (pos 1) (pos 255))
tested value.Address = Some (parser.Signed (pos 0) (pos 63))
tested value.Number32 = Some (parser.Signed (pos 0) (pos 4294967295))
tested value.Number64 = Some (parser.Unsigned 0 18446744073709551615)

abbrev pub value_of : WordKind → Value
value_of (kind.Option v) = v
value_of (kind.Needed v) = v
value_of (kind.Default v is) = v
value_of (kind.Place v) = v
value_of (kind.LastPlace v) = v
value_of _ = value.Text

-- what stands there if a word is left out
abbrev pub default_of : WordKind → List (Bor (List ℕ))
default_of (kind.Default v is) = is ∷ []
default_of _ = []

-- AN ARGUMENT of `clap` that is a word of the table
pub record IsArgument (word : Word) (arg : Arg) : Type 0 where
  pub name : arg.id.now ≡ word.name.now
  pub needed : arg.required ≡ is_needed word.kind
  pub action : arg.action ≡ Some (action_of word.kind)
  pub tested : arg.value_parser ≡ tested (value_of word.kind)
  pub default : items_of arg.default_vals ≡ default_of word.kind

-- arguments behind those of a list: one for each word, in their order
abbrev pub AddsArguments : List Arg → List Word → List Arg → Type 0
AddsArguments args [] more = more ≡ args
AddsArguments args (word ∷ words) more =
    (arg : Arg) × IsArgument word arg × AddsArguments (args ++ arg ∷ []) words more

-- A COMMAND of `clap` that is a subcommand: it has an argument for each word, in their order
abbrev pub IsCommandOf : List Word → Command → Type 0
IsCommandOf words command =
    (args : List Arg)
    × (begun : Command)
    × AddsArguments [] words args
    × AddsInTurn AddsArg begun args command

-- commands behind those of a list: one for each subcommand, in their order
abbrev pub AddsCommands : List Command → List Subcommand → List Command → Type 0
AddsCommands commands [] more = more ≡ commands
AddsCommands commands (from ∷ all) more =
    (command : Command)
    × IsCommandOf from.words.now command
    × AddsCommands (commands ++ command ∷ []) all more

-- a program has a command for each of its subcommands
abbrev pub IsProgram : List Subcommand → Command → Type 0
IsProgram all command =
    (commands : List Command)
    × (begun : Command)
    × AddsCommands [] all commands
    × AddsInTurn AddsSubcommand begun commands command
