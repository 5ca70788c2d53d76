use Rattle.std.proofs.Common.{◌≡◌, ℕ, suc, ◌+◌, ◌-◌, ◌*◌, ◌^◌, ◌<◌, ◌≤◌, Bool, true, false, not, ◌⊎◌, inl, inr, List, [], ◌∷◌, ◌++◌, length, refl, sym}
use Rattle.std.proofs.Common.{◌∙◌, ap}
use Rattle.std.proofs.Common.{subst, arith, Some, slice_index_or, if◌then◌else◌}
use Rattle.std.specs.Prelude.{◌==◌}
use Rattle.dali_frame.specs.declared.frames.Forward.{Forward as Frame}
use Rattle.dali_wire.specs.Levels.{bits_of, levels_of, highs, sent_levels, forward_bits}
use Rattle.dali_wire.specs.Reception.{receiver_at_first}
use Rattle.dali_wire.specs.declared.receiver.Receiver.{Receiver}
use Rattle.dali_wire.specs.declared.receiver.Reading.TheVariants.{Idle}
use Rattle.dali_wire.specs.declared.receiver.Frame.TheVariants.{Forward}
use Rattle.dali_wire.proofs.Values.{start_first, length_bits}
use Rattle.dali_port.specs.Times.{settling_of}
use Rattle.dali_port.specs.Runs.{Call, Sends, Times, Turns, Loses}
use Rattle.dali_bus_laws.specs.Table.{table}
use Rattle.dali_bus_laws.specs.Bus.{Edges, IsSeen, Sees, SeesFrom, first_read}
use Rattle.dali_bus_laws.specs.Pins.{edges_in, spaced, InOrder, AreEdgesOf, SendsWhole, seen_at, over_at}
use Rattle.dali_bus_laws.proofs.{Seen.whole_seen, Spans.soon_seen, Spans.itself_from, Taken.frame_taken}

-- WHAT A PORT SENT WHOLE is taken by each receiver; and of two ports that sent whole, both sent one frame from one edge on, or the second began
-- when the first was over.

edges_are : (bus : Edges) (f : Frame) (a : SendsWhole table bus f)
    → AreEdgesOf false a.port.called (sent_levels (forward_bits f)) (edges_in (a.calls ++ a.more))
edges_are bus f a =
    subst (λ (g : Frame). AreEdgesOf false a.port.called (sent_levels (forward_bits g)) (edges_in (a.calls ++ a.more))) a.is
    (whole_seen a.port a.order a.calls a.more a.begun.phase a.begun.high a.whole a.in_order)

pub sent_taken : (bus seen : Edges) (f : Frame) (r : Receiver) (rest : ℕ) → SendsWhole table bus f → SeesFrom table bus seen → r.reading ≡ Idle
    → r.is_low ≡ false → 2400 ≤ rest → first_read r seen rest ≡ Some (Forward f)
sent_taken bus seen f r rest a sees idle high long =
    frame_taken f a.port.called a.port.called (edges_in (a.calls ++ a.more)) bus seen r rest a.address a.opcode (edges_are bus f a) a.sees sees idle high
    long

-- the moments of edges go on
abbrev pub Sorted : ℕ → Edges → Type 0
Sorted from [] = Unit {0}
Sorted from (e ∷ edges) = (from ≤ e.1) × Sorted e.1 edges

le_along : (a b c : ℕ) → a ≤ b → b ≤ c → a ≤ c
le_along a b c one two = omega arith

sorted_later : (from at : ℕ) (es : Edges) → from ≤ at → Sorted at es → Sorted from es
sorted_later from at [] less h = tt
sorted_later from at (e ∷ es) less h = (le_along from at e.1 less h.0, h.1)

pub sorted : (calls : List Call) (from : ℕ) → InOrder from calls → Sorted from (edges_in calls)
sorted [] from h = tt
sorted (Sends order now ∷ calls) from h = sorted_later from now (edges_in calls) h.0 (sorted calls now h.1)
sorted (Times now ∷ calls) from h = sorted_later from now (edges_in calls) h.0 (sorted calls now h.1)
sorted (Turns low now ∷ calls) from h = (h.0, sorted calls now h.1)
sorted (Loses low now ∷ calls) from h = tt

abbrev moment_of : Edges → ℕ → ℕ
moment_of es n = (slice_index_or es n (false, 0)).1

later_on : (lead : Edges) (b : Bool × ℕ) (bus es : Edges) (last from : ℕ) → Sees table (lead ++ (b ∷ bus)) (spaced last es) → Sorted from es
    → from ≤ moment_of es (length lead)
later_on [] b bus [] last from sees h = absurd sees
later_on [] b bus (e ∷ es) last from sees h = h.0
later_on (l ∷ lead) b bus [] last from sees h = absurd sees
later_on (l ∷ lead) b bus (e ∷ es) last from sees h =
    le_along from e.1 (moment_of es (length lead)) h.0 (later_on lead b bus es e.1 e.1 sees.2 h.1)

-- an edge within a frame is not that of another frame, before which the bus was at rest
record Next (x : Bool) (at : ℕ) (ls : List Bool) (es lead : Edges) (b : Bool × ℕ) (bus : Edges) : Type 0 where
  moment : ℕ
  rest : Edges
  ahead : Edges
  least : at ≤ moment
  most : moment ≤ at + 40
  edges : AreEdgesOf (not x) (at + 417) ls rest
  sees : Sees table (ahead ++ (b ∷ bus)) (spaced moment rest)
  sorted : Sorted moment rest
  is : moment_of es (length lead) ≡ moment_of rest (length ahead)

not_rested : (passed counted : ℕ) → IsSeen table passed counted → counted ≤ 874 → 2000 ≤ passed → ⊥
not_rested passed counted seen few rested = let soon : passed < 2000 = soon_seen passed counted seen few in omega arith

few_since : (at last moment : ℕ) → at ≤ last + 417 + 417 → moment ≤ at + 40 → moment - last ≤ 874
few_since at last moment a b = omega arith

next_edge : (x : Bool) (at last : ℕ) (ls : List Bool) (es lead : Edges) (b : Bool × ℕ) (bus : Edges) → at ≤ last + 417 + 417
    → AreEdgesOf x at (not x ∷ ls) es → Sees table (lead ++ (b ∷ bus)) (spaced last es) → Sorted last es → 2000 ≤ b.1 → Next x at ls es lead b bus
next_edge true at last ls [] lead b bus few edges sees order rested = absurd edges
next_edge false at last ls [] lead b bus few edges sees order rested = absurd edges
next_edge true at last ls (e ∷ es) [] b bus few edges sees order rested =
    absurd (not_rested b.1 (e.1 - last) sees.1 (few_since at last e.1 few edges.2) rested)
next_edge false at last ls (e ∷ es) [] b bus few edges sees order rested =
    absurd (not_rested b.1 (e.1 - last) sees.1 (few_since at last e.1 few edges.2) rested)
next_edge true at last ls (e ∷ es) (l ∷ lead) b bus few edges sees order rested = record {
  moment = e.1;
  rest = es;
  ahead = lead;
  least = edges.1;
  most = edges.2;
  edges = edges.3;
  sees = sees.2;
  sorted = order.1;
  is = refl;
}
next_edge false at last ls (e ∷ es) (l ∷ lead) b bus few edges sees order rested = record {
  moment = e.1;
  rest = es;
  ahead = lead;
  least = edges.1;
  most = edges.2;
  edges = edges.3;
  sees = sees.2;
  sorted = order.1;
  is = refl;
}

-- when the levels of so many bits and of a stop condition are over
end_of : List Bool → ℕ → ℕ
end_of [] at = at + 417 + 417 + 417 + 417 + 417 + 417
end_of (bit ∷ bits) at = end_of bits (at + 417 + 417)

end_is : (bits : List Bool) (at : ℕ) → end_of bits at ≡ at + 834 * length bits + 2502
unfolding end_of
end_is [] at = omega arith
end_is (bit ∷ bits) at = let rest : end_of bits (at + 417 + 417) ≡ at + 417 + 417 + 834 * length bits + 2502 =
    end_is bits (at + 417 + 417) in omega (arith, rest)

near_one : (at last : ℕ) → at ≤ last + 417 → at ≤ last + 417 + 417
near_one at last h = omega arith

near_two : (at last : ℕ) → at ≤ last + 417 → at + 417 ≤ last + 417 + 417
near_two at last h = omega arith

near_next : (at last : ℕ) → at ≤ last → at + 417 ≤ last + 417
near_next at last h = omega arith

at_end : (x : Bool) (at last : ℕ) (es lead : Edges) (b : Bool × ℕ) (bus : Edges) → AreEdgesOf x at [] es → Sees table (lead ++ (b ∷ bus)) (spaced last es)
    → Sorted last es → at ≤ moment_of es (length lead)
at_end x at last [] [] b bus edges sees order = absurd sees
at_end x at last [] (l ∷ lead) b bus edges sees order = absurd sees
at_end true at last (e ∷ es) lead b bus edges sees order = later_on lead b bus (e ∷ es) last at sees (edges, order.1)
at_end false at last (e ∷ es) lead b bus edges sees order = later_on lead b bus (e ∷ es) last at sees (edges, order.1)

frame_over : (bits : List Bool) (x : Bool) (at last : ℕ) (es lead : Edges) (b : Bool × ℕ) (bus : Edges) → at ≤ last + 417
    → AreEdgesOf x at (levels_of bits ++ highs 6) es → Sees table (lead ++ (b ∷ bus)) (spaced last es) → Sorted last es → 2000 ≤ b.1
    → end_of bits at ≤ moment_of es (length lead)
unfolding end_of
frame_over [] false at last es lead b bus few edges sees order rested =
    at_end false (at + 417 + 417 + 417 + 417 + 417 + 417) last es lead b bus edges sees order
frame_over [] true at last es lead b bus few edges sees order rested =
    let n = next_edge true at last (highs 5) es lead b bus (near_one at last few) edges sees order rested in
    subst (λ m. at + 417 + 417 + 417 + 417 + 417 + 417 ≤ m) (sym n.is)
    (at_end false (at + 417 + 417 + 417 + 417 + 417 + 417) n.moment n.rest n.ahead b bus n.edges n.sees n.sorted)
frame_over (true ∷ bits) true at last es lead b bus few edges sees order rested =
    let n = next_edge true (at + 417) last (levels_of bits ++ highs 6) es lead b bus (near_two at last few) edges sees order rested in
    subst (λ m. end_of bits (at + 417 + 417) ≤ m) (sym n.is)
    (frame_over bits false (at + 417 + 417) n.moment n.rest n.ahead b bus (near_next (at + 417) n.moment n.least) n.edges n.sees n.sorted rested)
frame_over (false ∷ bits) false at last es lead b bus few edges sees order rested =
    let n = next_edge false (at + 417) last (levels_of bits ++ highs 6) es lead b bus (near_two at last few) edges sees order rested in
    subst (λ m. end_of bits (at + 417 + 417) ≤ m) (sym n.is)
    (frame_over bits true (at + 417 + 417) n.moment n.rest n.ahead b bus (near_next (at + 417) n.moment n.least) n.edges n.sees n.sorted rested)
frame_over (true ∷ bits) false at last es lead b bus few edges sees order rested =
    let n = next_edge false at last (false ∷ (levels_of bits ++ highs 6)) es lead b bus (near_one at last few) edges sees order rested in
    let m = next_edge true (at + 417) n.moment (levels_of bits ++ highs 6) n.rest n.ahead b bus (near_one (at + 417) n.moment (near_next at n.moment n.least))
    n.edges n.sees n.sorted rested in
    subst (λ k. end_of bits (at + 417 + 417) ≤ k) (sym (n.is ∙ m.is))
    (frame_over bits false (at + 417 + 417) m.moment m.rest m.ahead b bus (near_next (at + 417) m.moment m.least) m.edges m.sees m.sorted rested)
frame_over (false ∷ bits) true at last es lead b bus few edges sees order rested =
    let n = next_edge true at last (true ∷ (levels_of bits ++ highs 6)) es lead b bus (near_one at last few) edges sees order rested in
    let m = next_edge false (at + 417) n.moment (levels_of bits ++ highs 6) n.rest n.ahead b bus (near_one (at + 417) n.moment (near_next at n.moment n.least))
    n.edges n.sees n.sorted rested in
    subst (λ k. end_of bits (at + 417 + 417) ≤ k) (sym (n.is ∙ m.is))
    (frame_over bits true (at + 417 + 417) m.moment m.rest m.ahead b bus (near_next (at + 417) m.moment m.least) m.edges m.sees m.sorted rested)

-- the whole frame, of which the bus may not have been at rest before the first edge
settled : (priority : ℕ) → 13500 ≤ settling_of priority
settled priority = go (priority == 1) (priority == 2) (priority == 3) (priority == 4) where
  go : (a b c d : Bool) → 13500 ≤ (if a then 13500 else (if b then 14900 else (if c then 16300 else (if d then 17900 else 19500))))
  go true b c d = omega arith
  go false true c d = omega arith
  go false false true d = omega arith
  go false false false true = omega arith
  go false false false false = omega arith

long_rest : (least rest passed : ℕ) → 13500 ≤ least → least ≤ rest → 1000 * rest ≤ 1005 * (passed + 18 + 1) → 2000 ≤ passed
long_rest least rest passed a b c = omega arith

whole_end : (at : ℕ) (n : ℕ) → n ≡ 16 → at + 417 + 417 + 834 * n + 2502 ≡ at + 40 * 417
whole_end at n is = omega arith

begun_over : (f : Frame) (at last : ℕ) (es lead : Edges) (l b : Bool × ℕ) (bus : Edges) → AreEdgesOf false at (sent_levels (forward_bits f)) es
    → SeesFrom table (l ∷ (lead ++ (b ∷ bus))) (spaced last es) → Sorted last es → 2000 ≤ b.1 → at + 40 * 417 ≤ moment_of es (suc (length lead))
begun_over f at last [] lead l b bus edges sees order rested = absurd sees
begun_over f at last (e ∷ es) lead l b bus edges sees order rested =
    let n = next_edge true (at + 417) e.1 (levels_of bits ++ highs 6) es lead b bus (near_one (at + 417) e.1 (near_next at e.1 begun.1)) begun.3 sees.1
    order.1 rested in
    let over = frame_over bits false (at + 417 + 417) n.moment n.rest n.ahead b bus (near_next (at + 417) n.moment n.least) n.edges n.sees n.sorted rested in
    let end : end_of bits (at + 417 + 417) ≡ at + 40 * 417 =
    end_is bits (at + 417 + 417) ∙ whole_end at (length bits) (length_bits 16 (256 * f.address_byte + f.opcode_byte)) in
    subst (λ m. at + 40 * 417 ≤ m) (sym n.is) (subst (λ k. k ≤ moment_of n.rest (length n.ahead)) end over)
  where
    bits : List Bool
    bits = bits_of 16 (256 * f.address_byte + f.opcode_byte)

    same : (0x10000 + 256 * f.address_byte) + f.opcode_byte ≡ 2 ^ 16 + (256 * f.address_byte + f.opcode_byte)
    same = omega arith

    begun : AreEdgesOf false at (levels_of (true ∷ bits) ++ highs 6) (e ∷ es)
    begun =
        subst (λ bs. AreEdgesOf false at (levels_of bs ++ highs 6) (e ∷ es))
        (ap (λ n. bits_of 17 n) same ∙ start_first 16 (256 * f.address_byte + f.opcode_byte)) edges

-- two frames
one_frame : (bus : Edges) (f g : Frame) → SendsWhole table bus f → SendsWhole table bus g → f ≡ g
one_frame bus f g a b = go (sym (taken f a) ∙ taken g b) where
  taken : (h : Frame) → SendsWhole table bus h → first_read receiver_at_first bus 2400 ≡ Some (Forward h)
  taken h c = sent_taken bus bus h receiver_at_first 2400 c (itself_from bus) refl refl (omega arith)

  go : Some (Forward f) ≡ Some (Forward g) → f ≡ g
  go e = cc

pub two_frames : (lead bus : Edges) (f g : Frame) (a : SendsWhole table (lead ++ bus) f) (b : SendsWhole table bus g)
    → ((lead ≡ []) × (f ≡ g)) ⊎ (over_at a ≤ seen_at a (length lead))
two_frames [] bus f g a b = inl (refl, one_frame bus f g a b)
two_frames (l ∷ lead) [] f g a b = absurd (none (edges_in (b.calls ++ b.more)) (edges_are [] g b) b.sees) where
  none : (es : Edges) → AreEdgesOf false b.port.called (sent_levels (forward_bits g)) es → SeesFrom table [] (spaced b.port.called es) → ⊥
  none (e ∷ es) edges sees = sees
  none [] edges sees =
      subst (λ bs. AreEdgesOf false b.port.called (levels_of bs ++ highs 6) [])
      (ap (λ n. bits_of 17 n) same ∙ start_first 16 (256 * g.address_byte + g.opcode_byte)) edges
    where
      same : (0x10000 + 256 * g.address_byte) + g.opcode_byte ≡ 2 ^ 16 + (256 * g.address_byte + g.opcode_byte)
      same = omega arith
two_frames (l ∷ lead) (x ∷ bus) f g a b =
    inr (begun_over f a.port.called a.port.called (edges_in (a.calls ++ a.more)) lead l x bus (edges_are (l ∷ (lead ++ (x ∷ bus))) f a) a.sees
    (sorted (a.calls ++ a.more) a.port.called a.in_order)
    (long_rest (settling_of b.order.priority) (b.port.called - b.port.edge) x.1 (settled b.order.priority) b.begun.rest b.rested))
