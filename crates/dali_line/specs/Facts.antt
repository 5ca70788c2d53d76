use Rattle.std.specs.Prelude.{◌≡◌, ◌⊎◌, Bool}
use Rattle.dali_script.specs.declared.records.Record.{Record}
use Rattle.dali_script.specs.declared.orders.Input.{Input}
use Rattle.dali_script.specs.declared.orders.Input.TheVariants as input
use Rattle.dali_script.specs.declared.orders.Order.{Order}
use Rattle.dali_standing.specs.declared.refusal.Refusal.{Refusal}
use Rattle.dali_line.specs.Shares.{PortShare}
use Rattle.dali_line.specs.Steps.{given_of}

-- WHAT A CONTROLLER MAY BE GIVEN to act on. That is what became of its commit; or what the bus told
-- it, with Survey in place of Start if it begins by a survey.
abbrev pub IsGiven : (PortShare → Input → Type 0) → Bool → PortShare → Input → Type 0
IsGiven told surveys p i =
    (i ≡ input.Committed) ⊎ (i ≡ input.CommitFailed)
    ⊎ ((t : Input) × told p t × (i ≡ given_of surveys t))

-- WHAT A BUS SAYS OF ITS CALLS with a port: the relations of the trait `Bus`, which only its calls
-- give. By what the bus told a controller, and by whether that begins by a survey, `gives` says
-- what the controller may be given to act on.
pub record Facts : Type 1 where
  pub acted : PortShare → Input → Order → PortShare → Type 0
  pub refused : PortShare → Input → Refusal → Type 0
  pub gives : PortShare → Input → Type 0
  pub untold : PortShare → Type 0
  pub unordered : PortShare → Type 0
  pub ordered : PortShare → Record → Type 0
  pub is_down : PortShare → Type 0
  pub is_stopped : Type 0

abbrev pub facts_of : (acted : PortShare → Input → Order → PortShare → Type 0)
    → (refused : PortShare → Input → Refusal → Type 0) → (told : PortShare → Input → Type 0)
    → (untold unordered : PortShare → Type 0) → (ordered : PortShare → Record → Type 0)
    → (is_down : PortShare → Type 0) → (is_stopped : Type 0) → (surveys : Bool) → Facts
facts_of acted refused told untold unordered ordered is_down is_stopped surveys = record {
  acted = acted;
  refused = refused;
  gives = IsGiven told surveys;
  untold = untold;
  unordered = unordered;
  ordered = ordered;
  is_down = is_down;
  is_stopped = is_stopped;
}
