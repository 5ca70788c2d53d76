use Rattle.std.proofs.Common.{◌≡◌, ℕ, ◌%◌, ◌<◌, Bool, true, false, List, [], ◌∷◌, Option, Some, None, refl, sym, ap, subst, ◌∙◌, arith}
use Rattle.std.proofs.lemmas.Bool.Decides.{nat_tests}
use Rattle.std.specs.Prelude.{◌↔◌, ◌==◌, if◌then◌else◌, option_map, unwrap_or}
use Rattle.dali_frame.specs.declared.frames.Forward.{Forward}
use Rattle.dali_frame.specs.Short.{code_of, short_of}
use Rattle.dali_special.specs.declared.command.Target.{Target}
use Rattle.dali_special.specs.declared.command.Target.TheVariants.{All, Addressed, Unaddressed}
use Rattle.dali_special.specs.declared.command.Part.{Part}
use Rattle.dali_special.specs.declared.command.Part.TheVariants.{High, Middle, Low}
use Rattle.dali_special.specs.declared.command.Command.{Command}
use Rattle.dali_special.specs.declared.command.Command.TheVariants.{Terminate, Initialise, Randomise, Compare, Withdraw, SearchHigh, SearchMiddle, SearchLow}
use Rattle.dali_special.specs.declared.command.Command.TheVariants.{Program, Verify, QueryShort, RandomByte, Arc, Other}
use Rattle.dali_special.specs.Command.{MASK, Row, without_data_of, target_of, target_data, program_of, rows, row_of, part_of, part_code, query_by, query_of}
use Rattle.dali_special.specs.Command.{special_of, command_of, frame_of, frame, IsSpelled}

-- the code of a short address is read as it, and is neither 00 nor FF
pub short_of_code : (a : ℕ) → a < 64 → short_of (code_of a) ≡ Some a
short_of_code a small = grind (arith, nat_tests)

pub target_of_code : (a : ℕ) → a < 64 → target_of (code_of a) ≡ Some (Addressed a)
target_of_code a small =
    let zero : (code_of a == 0) ≡ false = grind (arith, nat_tests) in
    let mask : (code_of a == MASK) ≡ false = grind (arith, nat_tests) in
    rw (zero, mask, short_of_code a small) refl

pub program_of_code : (a : ℕ) → a < 64 → program_of (code_of a) ≡ Some (Program (Some a))
program_of_code a small =
    let mask : (code_of a == MASK) ≡ false = grind (arith, nat_tests) in
    rw (mask, short_of_code a small) refl

-- the code of a short address has last bit 1, so a frame with it is no direct arc power
code_is_odd : (a : ℕ) → (code_of a % 2 == 0) ≡ false
code_is_odd a = grind (arith, nat_tests)

part_of_code : (part : Part) → part_of (part_code part) ≡ Some part
part_of_code High = refl
part_of_code Middle = refl
part_of_code Low = refl

-- a command that its frame can be read as is read from its frame
pub read_written : (c : Command) → IsSpelled c → command_of (frame_of c) ≡ c
unfolding command_of
read_written Terminate h = refl
read_written (Initialise All) h = refl
read_written (Initialise (Addressed a)) h = rw (target_of_code a h) refl
read_written (Initialise Unaddressed) h = refl
read_written Randomise h = refl
read_written Compare h = refl
read_written Withdraw h = refl
read_written (SearchHigh byte) h = refl
read_written (SearchMiddle byte) h = refl
read_written (SearchLow byte) h = refl
read_written (Program None) h = refl
read_written (Program (Some a)) h = rw (program_of_code a h) refl
read_written (Verify a) h = rw (short_of_code a h) refl
read_written QueryShort h = refl
read_written (RandomByte a part) h = rw (code_is_odd a, short_of_code a h, part_of_code part) refl
read_written (Arc f) h = rw h refl
read_written (Other f) h = h

-- a row's commands are written with the row's address byte and the data byte
abbrev pub IsWritten : Row → Type 0
IsWritten row = (byte : ℕ) (c : Command) → row.1 byte ≡ Some c → frame_of c ≡ frame row.0 byte

abbrev pub AllWritten : List Row → Type 0
AllWritten [] = Unit {0}
AllWritten (row ∷ more) = IsWritten row × AllWritten more

without_data_written : (address : ℕ) (command : Command) → frame_of command ≡ frame address 0 → IsWritten (address, without_data_of command)
without_data_written address command is byte c e = go (byte == 0) refl e where
  go : (b : Bool) → (byte == 0) ≡ b → (if b then Some command else None) ≡ Some c → frame_of c ≡ frame address byte
  go true zero is_some =
      let same : command ≡ c = cc in
      let number : byte ≡ 0 = grind (arith, nat_tests) in
      ap frame_of (sym same) ∙ is ∙ ap (λ n. frame address n) (sym number)
  go false other is_some = cc

pub code_of_short : (byte a : ℕ) → short_of byte ≡ Some a → code_of a ≡ byte
code_of_short byte a e = grind (arith, nat_tests)

target_written : (byte : ℕ) (o : Option Target) (c : Command) → target_of byte ≡ o → option_map (λ target. Initialise target) o ≡ Some c
    → frame_of c ≡ frame 0xA5 byte
target_written byte None c is e = cc
target_written byte (Some target) c is e =
    let same : Initialise target ≡ c = cc in
    ap frame_of (sym same) ∙ ap (λ n. frame 0xA5 n) (target_is (byte == 0) (byte == MASK) (short_of byte) target refl refl refl is)
  where
    target_is : (z m : Bool) (s : Option ℕ) (t : Target) → (byte == 0) ≡ z → (byte == MASK) ≡ m → short_of byte ≡ s
        → (if z then Some All else if m then Some Unaddressed else option_map (λ a. Addressed a) s) ≡ Some t → target_data t ≡ byte
    target_is true m s t zero mask short e =
        let same : All ≡ t = cc in
        let number : 0 ≡ byte = grind (arith, nat_tests) in
        ap target_data (sym same) ∙ number
    target_is false true s t zero mask short e =
        let same : Unaddressed ≡ t = cc in
        let number : MASK ≡ byte = grind (arith, nat_tests) in
        ap target_data (sym same) ∙ number
    target_is false false None t zero mask short e = cc
    target_is false false (Some a) t zero mask short e =
        let same : Addressed a ≡ t = cc in
        ap target_data (sym same) ∙ code_of_short byte a short

program_written : (byte : ℕ) (c : Command) → program_of byte ≡ Some c → frame_of c ≡ frame 0xB7 byte
program_written byte c e = go (byte == MASK) (short_of byte) refl refl e where
  go : (m : Bool) (s : Option ℕ) → (byte == MASK) ≡ m → short_of byte ≡ s
      → (if m then Some (Program None) else option_map (λ a. Program (Some a)) s) ≡ Some c → frame_of c ≡ frame 0xB7 byte
  go true s mask short e =
      let same : Program None ≡ c = cc in
      let number : MASK ≡ byte = grind (arith, nat_tests) in
      ap frame_of (sym same) ∙ ap (λ n. frame 0xB7 n) number
  go false None mask short e = cc
  go false (Some a) mask short e =
      let same : Program (Some a) ≡ c = cc in
      ap frame_of (sym same) ∙ ap (λ n. frame 0xB7 n) (code_of_short byte a short)

verify_written : (byte : ℕ) (s : Option ℕ) (c : Command) → short_of byte ≡ s → option_map (λ a. Verify a) s ≡ Some c → frame_of c ≡ frame 0xB9 byte
verify_written byte None c short e = cc
verify_written byte (Some a) c short e =
    let same : Verify a ≡ c = cc in
    ap frame_of (sym same) ∙ ap (λ n. frame 0xB9 n) (code_of_short byte a short)

all_written : AllWritten rows
all_written = (
  without_data_written 0xA1 Terminate refl,
  (
    (λ byte c e. target_written byte (target_of byte) c refl e),
    (
      without_data_written 0xA7 Randomise refl,
      (
        without_data_written 0xA9 Compare refl,
        (
          without_data_written 0xAB Withdraw refl,
          (
            (λ byte c e. ap frame_of (sym (let same : SearchHigh byte ≡ c = cc in same))),
            (
              (λ byte c e. ap frame_of (sym (let same : SearchMiddle byte ≡ c = cc in same))),
              (
                (λ byte c e. ap frame_of (sym (let same : SearchLow byte ≡ c = cc in same))),
                (
                  program_written,
                  (
                    (λ byte c e. verify_written byte (short_of byte) c refl e),
                    (without_data_written 0xBB QueryShort refl, tt),
                  ),
                ),
              ),
            ),
          ),
        ),
      ),
    ),
  ),
)

row_written : (address byte : ℕ) (rs : List Row) → AllWritten rs → (c : Command) → row_of address byte rs ≡ Some c → frame_of c ≡ frame address byte
row_written address byte [] all c e = cc
row_written address byte (row ∷ more) all c e = go (address == row.0) refl e (row_written address byte more all.1 c) where
  go : (b : Bool) → (address == row.0) ≡ b → (if b then row.1 byte else row_of address byte more) ≡ Some c
      → (row_of address byte more ≡ Some c → frame_of c ≡ frame address byte) → frame_of c ≡ frame address byte
  go true is e' later =
      let same : row.0 ≡ address = grind (arith, nat_tests) in
      all.0 byte c e' ∙ ap (λ n. frame n byte) same
  go false is e' later = later e'

-- a query's opcode is that of the byte that it asks for
code_of_part : (byte : ℕ) (part : Part) → part_of byte ≡ Some part → part_code part ≡ byte
code_of_part byte part e = go (byte == 0xC2) (byte == 0xC3) (byte == 0xC4) refl refl refl e where
  go : (h m l : Bool) → (byte == 0xC2) ≡ h → (byte == 0xC3) ≡ m → (byte == 0xC4) ≡ l
      → (if h then Some High else if m then Some Middle else if l then Some Low else None) ≡ Some part → part_code part ≡ byte
  go true m l high middle low is =
      let same : High ≡ part = cc in
      let number : 0xC2 ≡ byte = grind (arith, nat_tests) in
      ap part_code (sym same) ∙ number
  go false true l high middle low is =
      let same : Middle ≡ part = cc in
      let number : 0xC3 ≡ byte = grind (arith, nat_tests) in
      ap part_code (sym same) ∙ number
  go false false true high middle low is =
      let same : Low ≡ part = cc in
      let number : 0xC4 ≡ byte = grind (arith, nat_tests) in
      ap part_code (sym same) ∙ number
  go false false false high middle low is = cc

query_written : (address byte : ℕ) (s : Option ℕ) (p : Option Part) (c : Command) → short_of address ≡ s → part_of byte ≡ p → query_by s p ≡ Some c
    → frame_of c ≡ frame address byte
query_written address byte None p c short part e = cc
query_written address byte (Some a) None c short part e = cc
query_written address byte (Some a) (Some asked) c short part e =
    let same : RandomByte a asked ≡ c = cc in
    ap frame_of (sym same) ∙ ap (λ n. frame n (part_code asked)) (code_of_short address a short) ∙ ap (λ n. frame address n) (code_of_part byte asked part)

-- a frame is the frame of its command
pub written_read : (f : Forward) → frame_of (command_of f) ≡ f
unfolding command_of
written_read f = go (f.address_byte % 2 == 0) (query_of f.address_byte f.opcode_byte) (row_of f.address_byte f.opcode_byte rows) refl refl where
  go : (even : Bool) (q o : Option Command) → query_of f.address_byte f.opcode_byte ≡ q → row_of f.address_byte f.opcode_byte rows ≡ o
      → frame_of (if even then Arc f else special_of q f) ≡ f
  go true q o query is = refl
  go false (Some c) o query is = query_written f.address_byte f.opcode_byte (short_of f.address_byte) (part_of f.opcode_byte) c refl refl query
  go false None None query is = rw is refl
  go false None (Some c) query is = rw is (row_written f.address_byte f.opcode_byte rows all_written c is)

-- what a row reads is a command that its frame is read as
abbrev pub ReadsSpelled : (ℕ → Option Command) → Type 0
ReadsSpelled reads = (byte : ℕ) (c : Command) → reads byte ≡ Some c → IsSpelled c

abbrev pub AllSpelled : List Row → Type 0
AllSpelled [] = Unit {0}
AllSpelled (row ∷ more) = ReadsSpelled row.1 × AllSpelled more

without_data_spelled : (command : Command) → IsSpelled command → ReadsSpelled (without_data_of command)
without_data_spelled command is byte c e = go (byte == 0) e where
  go : (b : Bool) → (if b then Some command else None) ≡ Some c → IsSpelled c
  go true is_some = let same : command ≡ c = cc in subst IsSpelled same is
  go false is_some = absurd (cc)

pub short_small : (byte a : ℕ) → short_of byte ≡ Some a → a < 64
short_small byte a e = grind (arith, nat_tests)

-- a command made of a short address that was read
of_short_spelled : (command : ℕ → Command) → ((a : ℕ) → a < 64 → IsSpelled (command a)) → ReadsSpelled (λ byte. option_map command (short_of byte))
of_short_spelled command is byte c e = go (short_of byte) refl e where
  go : (s : Option ℕ) → short_of byte ≡ s → option_map command s ≡ Some c → IsSpelled c
  go None short e' = absurd (cc)
  go (Some a) short e' = let same : command a ≡ c = cc in subst IsSpelled same (is a (short_small byte a short))

initialise_spelled : ReadsSpelled (λ byte. option_map (λ target. Initialise target) (target_of byte))
initialise_spelled byte c e = go (byte == 0) (byte == MASK) e where
  go : (z m : Bool)
      → option_map (λ target. Initialise target) (if z then Some All else if m then Some Unaddressed else option_map (λ a. Addressed a) (short_of byte))
      ≡ Some c → IsSpelled c
  go true m e' = let same : Initialise All ≡ c = cc in subst IsSpelled same tt
  go false true e' = let same : Initialise Unaddressed ≡ c = cc in subst IsSpelled same tt
  go false false e' = addressed (short_of byte) refl e' where
    addressed : (s : Option ℕ) → short_of byte ≡ s → option_map (λ target. Initialise target) (option_map (λ a. Addressed a) s) ≡ Some c → IsSpelled c
    addressed None short e'' = absurd (cc)
    addressed (Some a) short e'' = let same : Initialise (Addressed a) ≡ c = cc in subst IsSpelled same (short_small byte a short)

program_spelled : ReadsSpelled program_of
program_spelled byte c e = go (byte == MASK) e where
  go : (m : Bool) → (if m then Some (Program None) else option_map (λ a. Program (Some a)) (short_of byte)) ≡ Some c → IsSpelled c
  go true e' = let same : Program None ≡ c = cc in subst IsSpelled same tt
  go false e' = of_short_spelled (λ a. Program (Some a)) (λ a small. small) byte c e'

all_spelled : AllSpelled rows
all_spelled = (
  without_data_spelled Terminate tt,
  (
    initialise_spelled,
    (
      without_data_spelled Randomise tt,
      (
        without_data_spelled Compare tt,
        (
          without_data_spelled Withdraw tt,
          (
            (λ byte c e. subst IsSpelled (let same : SearchHigh byte ≡ c = cc in same) tt),
            (
              (λ byte c e. subst IsSpelled (let same : SearchMiddle byte ≡ c = cc in same) tt),
              (
                (λ byte c e. subst IsSpelled (let same : SearchLow byte ≡ c = cc in same) tt),
                (
                  program_spelled,
                  (
                    of_short_spelled (λ a. Verify a) (λ a small. small),
                    (without_data_spelled QueryShort tt, tt),
                  ),
                ),
              ),
            ),
          ),
        ),
      ),
    ),
  ),
)

row_spelled : (address byte : ℕ) (rs : List Row) → AllSpelled rs → (c : Command) → row_of address byte rs ≡ Some c → IsSpelled c
row_spelled address byte [] all c e = absurd (cc)
row_spelled address byte (row ∷ more) all c e = go (address == row.0) e (row_spelled address byte more all.1 c) where
  go : (b : Bool) → (if b then row.1 byte else row_of address byte more) ≡ Some c → (row_of address byte more ≡ Some c → IsSpelled c) → IsSpelled c
  go true e' later = all.0 byte c e'
  go false e' later = later e'

query_spelled : (address : ℕ) (s : Option ℕ) (p : Option Part) (c : Command) → short_of address ≡ s → query_by s p ≡ Some c → IsSpelled c
query_spelled address None p c short e = absurd (cc)
query_spelled address (Some a) None c short e = absurd (cc)
query_spelled address (Some a) (Some asked) c short e = let same : RandomByte a asked ≡ c = cc in subst IsSpelled same (short_small address a short)

-- every frame's command is one that its frame is read as
spelled_by : (f : Forward) (c : Command) → command_of f ≡ c → IsSpelled c
unfolding command_of
spelled_by f c is = go (f.address_byte % 2 == 0) (query_of f.address_byte f.opcode_byte) refl refl is where
  rest : (o : Option Command) → row_of f.address_byte f.opcode_byte rows ≡ o → unwrap_or o (Other f) ≡ c → IsSpelled c
  rest None row e = let same : Other f ≡ c = cc in subst IsSpelled same (is ∙ sym same)
  rest (Some command) row e = let same : command ≡ c = cc in subst IsSpelled same (row_spelled f.address_byte f.opcode_byte rows all_spelled command row)

  go : (even : Bool) (q : Option Command) → (f.address_byte % 2 == 0) ≡ even → query_of f.address_byte f.opcode_byte ≡ q
      → (if even then Arc f else special_of q f) ≡ c → IsSpelled c
  go true q test query e = let same : Arc f ≡ c = cc in subst IsSpelled same test
  go false (Some command) test query e =
      let same : command ≡ c = cc in
      subst IsSpelled same (query_spelled f.address_byte (short_of f.address_byte) (part_of f.opcode_byte) command refl query)
  go false None test query e = rest (row_of f.address_byte f.opcode_byte rows) refl e

pub read_spelled : (f : Forward) → IsSpelled (command_of f)
read_spelled f = spelled_by f (command_of f) refl

-- two frames of one command are equal
pub one_frame : (f g : Forward) → command_of f ≡ command_of g → f ≡ g
one_frame f g same = sym (written_read f) ∙ ap frame_of same ∙ written_read g

-- which frame has which command
pub frame_of_command : (f : Forward) (c : Command) → command_of f ≡ c → f ≡ frame_of c
frame_of_command f c is = sym (written_read f) ∙ ap frame_of is

-- the commands that may begin a transaction
pub is_terminate : (f : Forward) → (command_of f ≡ Terminate) ↔ (f ≡ frame 0xA1 0)
is_terminate f = (frame_of_command f Terminate, λ is. ap command_of is ∙ read_written Terminate tt)

pub is_search_high : (f : Forward) (byte : ℕ) → (command_of f ≡ SearchHigh byte) ↔ (f ≡ frame 0xB1 byte)
is_search_high f byte = (frame_of_command f (SearchHigh byte), λ is. ap command_of is ∙ read_written (SearchHigh byte) tt)

pub is_arc : (f : Forward) → (command_of f ≡ Arc f) ↔ ((f.address_byte % 2 == 0) ≡ true)
is_arc f = (λ is. subst IsSpelled is (read_spelled f), λ even. read_written (Arc f) even)

pub arc_of : (f g : Forward) → command_of f ≡ Arc g → (g ≡ f) × ((f.address_byte % 2 == 0) ≡ true)
arc_of f g is =
    let same : f ≡ g = frame_of_command f (Arc g) is in
    (sym same, subst IsSpelled (is ∙ ap (λ h. Arc h) (sym same)) (read_spelled f))
