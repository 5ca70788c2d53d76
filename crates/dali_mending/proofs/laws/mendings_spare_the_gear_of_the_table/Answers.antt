use Rattle.dali_mending.proofs.Tabled.{course_spares}
use Rattle.dali_mending.proofs.laws.mendings_spare_the_gear_of_the_table.Goals as goal

pub returns : goal.returns
returns c = course_spares
