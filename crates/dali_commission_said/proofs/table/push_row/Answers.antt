use Rattle.dali_commission_said.proofs.table.push_row.Goals as goal

pub returns-in-Text : goal.returns-in-Text
returns-in-Text c = rw (c.in-Text.is, ← c.number-address.ensures.value) c.write.ensures.bytes

pub returns-in-Csv : goal.returns-in-Csv
returns-in-Csv c = rw (c.in-Csv.is, ← c.number-address.ensures.value) c.write-in-Csv.ensures.bytes

pub returns-in-Json : goal.returns-in-Json
returns-in-Json c = rw (c.in-Json.is, ← c.number-address.ensures.value) c.write-in-Json.ensures.bytes
