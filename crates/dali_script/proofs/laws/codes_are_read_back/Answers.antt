use Rattle.dali_script.proofs.Codes.{record_there, record_back, end_there, end_back, fault_there, fault_back}
use Rattle.dali_script.proofs.laws.codes_are_read_back.Goals as goal

pub returns : goal.returns
returns c = record {
  record_there = record_there;
  record_back = record_back;
  end_there = end_there;
  end_back = end_back;
  fault_there = fault_there;
  fault_back = fault_back;
}
