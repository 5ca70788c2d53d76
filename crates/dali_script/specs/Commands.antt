use Rattle.std.specs.Prelude.{ℕ, Bool, true, false, ◌==◌, ◌&&◌}
use Rattle.dali_special.specs.declared.command.Target.TheVariants.{Unaddressed}
use Rattle.dali_special.specs.declared.command.Part.{Part}
use Rattle.dali_special.specs.declared.command.Part.TheVariants.{High, Middle, Low}
use Rattle.dali_special.specs.declared.command.Command.{Command}
use Rattle.dali_special.specs.declared.command.Command.TheVariants.{Initialise, RandomByte}

-- INITIALISE for gear without short address
abbrev pub is_initialise : Command → Bool
is_initialise (Initialise Unaddressed) = true
is_initialise _ = false

abbrev pub same_part : Part → Part → Bool
same_part High High = true
same_part Middle Middle = true
same_part Low Low = true
same_part _ _ = false

-- QUERY RANDOM ADDRESS to a short address, for a byte
abbrev pub is_query : Command → ℕ → Part → Bool
is_query (RandomByte b asked) a part = same_part asked part && (b == a)
is_query _ a part = false
