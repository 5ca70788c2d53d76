use Rattle.std.proofs.Common.{◌≡◌, ℕ, map, take, length, get_or}
use Rattle.std.specs.declared.option.Option.TheVariants.{None}
use Rattle.std.specs.Vec.{vec_len, vec_capacity}
use Rattle.once_cell.specs.Once.{cell_name}
use Rattle.dali_enrol.proofs.directory.Directory.pass.Given as goal

abbrev pub invariant-loop-place : goal.invariant-loop-place
invariant-loop-place l = record {
  count : vec_len l.notes ≡ l.place-index;
  room : vec_capacity l.notes ≡ 64;
  all : length l.place-items ≡ 64;
  places : map (λ n. n.cell) l.notes.items ≡ map cell_name (take l.place-index l.place-items);
  nothing : (k : ℕ) → get_or (map (λ n. n.known) l.notes.items) k None ≡ None;
  count_too : vec_len l.standing ≡ l.place-index;
  room_too : vec_capacity l.standing ≡ 64;
  same : map (λ n. n.cell) l.standing.items ≡ map (λ n. n.cell) l.notes.items;
  nothing_too : (k : ℕ) → get_or (map (λ n. n.known) l.standing.items) k None ≡ None;
}
