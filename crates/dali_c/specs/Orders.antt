use Rattle.std.specs.Prelude.{◌≡◌, ℕ, ◌==◌, ◌&&◌, nat_le, List, Option, Some, None, option_map}
use Rattle.std.specs.Prelude.{if◌then◌else◌}
use Rattle.dali_special.specs.Command.{command_of, is_question}
use Rattle.dali_script.specs.declared.records.Record.{Record}
use Rattle.dali_script.specs.declared.orders.Order.{Order}
use Rattle.dali_script.specs.declared.orders.Order.TheVariants.{Put, Commit, Done, Halt}
use Rattle.dali_script.specs.declared.finding.Finding.{Finding}
use Rattle.dali_script.specs.declared.finding.Finding.TheVariants.{Queried, Resolved}
use Rattle.dali_script.specs.Records.{Assignment}
use Rattle.dali_script.specs.declared.trace.Entry.{Entry}
use Rattle.dali_script.specs.Names.{record_by, end_by, fault_by}
use Rattle.dali_script.specs.Sending.{half_in}
use Rattle.dali_c.specs.Codes.{bool_of, half_code}
use Rattle.dali_c.specs.Pairs.{read_pair}
use Rattle.dali_c.specs.declared.orders.PlainRecord.{PlainRecord}
use Rattle.dali_c.specs.declared.orders.PlainOrder.{PlainOrder}
use Rattle.dali_c.specs.declared.orders.PlainFinding.{PlainFinding}

-- struct dali_record, with the kinds of enum dali_record_kind
abbrev pub record_if : ℕ → Option Assignment → Option Record
record_if kind (Some p) = record_by kind p.0 p.1
record_if kind None = None

abbrev pub record_of : PlainRecord → Option Record
record_of x = record_if x.kind (read_pair x.pair)

-- struct dali_order, with the kinds of enum dali_order_kind: kind 0 is no order yet
abbrev pub put_of : PlainOrder → Option Order
put_of o =
    if nat_le 1 o.priority && nat_le o.priority 5
    then Some (Put o.priority (record {
      address_byte = o.address_byte;
      opcode_byte = o.opcode_byte;
    }))
    else None

abbrev pub given_of : PlainOrder → Option Order
given_of o =
    if o.kind == 1 then put_of o else
    (if o.kind == 2 then option_map (λ x. Commit x) (record_of o.record) else
    (if o.kind == 3 then option_map (λ e. Done e) (end_by o.reason) else
    (if o.kind == 4 then option_map (λ w. Halt w) (fault_by o.reason) else None)))

abbrev pub order_of : PlainOrder → Option (Option Order)
order_of o = if o.kind == 0 then Some None else option_map (λ x. Some x) (given_of o)

-- WHAT THE KIND OF AN ORDER DOES NOT NAME is 0.
abbrev pub HasNoFrame : PlainOrder → Type 0
HasNoFrame x =
    (x.priority ≡ 0) × (x.address_byte ≡ 0) × (x.opcode_byte ≡ 0) × (x.asks ≡ 0) × (x.half ≡ 0)

abbrev pub HasNoRecord : PlainOrder → Type 0
HasNoRecord x = (x.record.kind ≡ 0) × (x.record.pair ≡ (0, 0))

abbrev pub HasNoMore : PlainOrder → Option Order → Type 0
HasNoMore x None = HasNoFrame x × HasNoRecord x × (x.reason ≡ 0)
HasNoMore x (Some (Put p f)) = HasNoRecord x × (x.reason ≡ 0)
HasNoMore x (Some (Commit r)) = HasNoFrame x × (x.reason ≡ 0)
HasNoMore x (Some (Done e)) = HasNoFrame x × HasNoRecord x
HasNoMore x (Some (Halt w)) = HasNoFrame x × HasNoRecord x

-- HOW A FRAME IS SENT that is put after these frames of its transaction: whether a backward frame
-- is awaited, and which frame of a pair it is.
abbrev pub IsSentSo : PlainOrder → List Entry → Option Order → Type 0
IsSentSo x before (Some (Put p f)) =
    (bool_of x.asks ≡ Some (is_question (command_of f))) × (x.half ≡ half_code (half_in before f))
IsSentSo x before (Some (Commit r)) = Unit {0}
IsSentSo x before (Some (Done e)) = Unit {0}
IsSentSo x before (Some (Halt w)) = Unit {0}
IsSentSo x before None = Unit {0}

-- struct dali_finding: kind 0 is none, 1 by QUERY SHORT ADDRESS, 2 by QUERY RANDOM ADDRESS
abbrev pub finding_by : ℕ → Assignment → Option (Option Finding)
finding_by kind p =
    if kind == 1 then Some (Some (Queried p.0 p.1)) else
    (if kind == 2 then Some (Some (Resolved p.0 p.1)) else None)

abbrev pub finding_if : ℕ → Option Assignment → Option (Option Finding)
finding_if kind (Some p) = finding_by kind p
finding_if kind None = None

abbrev pub finding_of : PlainFinding → Option (Option Finding)
finding_of f = if f.kind == 0 then Some None else finding_if f.kind (read_pair f.pair)
