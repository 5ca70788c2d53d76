-- Worked examples of what may follow: block 4 to 7, with 4 reserved for the random address 0ABCDE; and a hunt.
use Rattle.std.proofs.Common.{◌≡◌, inl, true, ℕ, List, [], ◌∷◌, refl, lit<, lit≤}
use Rattle.dali_frame.specs.declared.frames.Answer.{Answer, TheVariants.Silence, TheVariants.Byte, TheVariants.Damaged}
use Rattle.dali_special.specs.Command.{command_of, frame}
use Rattle.dali_special.specs.declared.command.Command.TheVariants.{SearchHigh, SearchLow, Compare}
use Rattle.dali_script.specs.{Records.Assignment, Scripts.Look, Scripts.Give, Scripts.Hunt, Scripts.Lawful, Stages.stage_of, Stages.follows}
use Rattle.dali_script.specs.declared.{block.Block.Block, trace.Entry.Entry}
use Rattle.dali_script.proofs.Transactions.{follows_lawful, follows_test}

block : Block
block = record { first = 4; last = 7 }

reserved : List Assignment
reserved = (4, 0x0ABCDE) ∷ []

sent : ℕ → ℕ → Answer → Entry
sent address opcode heard = record { frame = frame address opcode; heard = heard }

searched_with : List Entry → List Entry
searched_with more = sent 0xB1 0x0A Silence ∷ sent 0xB3 0xBC Silence ∷ sent 0xB5 0xDE Silence ∷ more

-- The gear at the number has no address: PROGRAM of the address reserved for it may follow.
reserved_address_is_given : Lawful block reserved (searched_with (sent 0xBB 0 (Byte 0xFF) ∷ [])) (frame 0xB7 0x09)
unfolding block reserved sent searched_with command_of
reserved_address_is_given = (
  Give (record { high = 0x0A; middle = 0xBC; low = 0xDE }) 4,
  record { drawn = lit< tt; within = (lit≤ tt, lit≤ tt); reserved_for = inl refl },
  ((refl, tt, (refl, tt, (refl, tt, (refl, refl, refl))))),
)

-- An address was heard: WITHDRAW may follow.
heard_address_is_withdrawn : Lawful block [] (searched_with (sent 0xBB 0 (Byte 0x09) ∷ [])) (frame 0xAB 0)
unfolding block sent searched_with command_of
heard_address_is_withdrawn =
    (Look (record { high = 0x0A; middle = 0xBC; low = 0xDE }), tt, (refl, tt, (refl, tt, (refl, tt, (refl, (4, lit< tt, refl), refl)))))

-- PROGRAM of another address may not, nor after SEARCHADDRH, M and L alone, nor WITHDRAW after a damaged answer.
other_address_is_not_given : Lawful block reserved (searched_with (sent 0xBB 0 (Byte 0xFF) ∷ [])) (frame 0xB7 0x0B) → ⊥
unfolding block reserved sent searched_with command_of stage_of
other_address_is_not_given lawful =
    let t = searched_with (sent 0xBB 0 (Byte 0xFF) ∷ []) in
    let test : follows block reserved (stage_of t) (command_of (frame 0xB7 0x0B)) ≡ true =
    follows_test block reserved (stage_of t) (command_of (frame 0xB7 0x0B)) (follows_lawful block reserved t (frame 0xB7 0x0B) lawful) in
    cc

no_program_without_query : Lawful block reserved (searched_with []) (frame 0xB7 0x09) → ⊥
unfolding block reserved sent searched_with command_of stage_of
no_program_without_query lawful =
    let t = searched_with [] in
    let test : follows block reserved (stage_of t) (command_of (frame 0xB7 0x09)) ≡ true =
    follows_test block reserved (stage_of t) (command_of (frame 0xB7 0x09)) (follows_lawful block reserved t (frame 0xB7 0x09) lawful) in
    cc

no_withdraw_after_damage : Lawful block reserved (searched_with (sent 0xBB 0 Damaged ∷ [])) (frame 0xAB 0) → ⊥
unfolding block reserved sent searched_with command_of stage_of
no_withdraw_after_damage lawful =
    let t = searched_with (sent 0xBB 0 Damaged ∷ []) in
    let test : follows block reserved (stage_of t) (command_of (frame 0xAB 0)) ≡ true =
    follows_test block reserved (stage_of t) (command_of (frame 0xAB 0)) (follows_lawful block reserved t (frame 0xAB 0) lawful) in
    cc

-- A HUNT: the low byte before the middle one; then COMPARE, one changed byte and COMPARE, and two more.
hunted_with : List Entry → List Entry
hunted_with more = sent 0xB1 0x0A Silence ∷ sent 0xB5 0xDE Silence ∷ sent 0xB3 0xBC Silence ∷ sent 0xA9 0 (Byte 0xFF) ∷ more

-- An eighth frame may follow, SEARCHADDRH too.
a_hunt_has_eight_frames : Lawful block [] (hunted_with (sent 0xB5 0x6E Silence ∷ sent 0xA9 0 Silence ∷ sent 0xB1 0x0B Silence ∷ [])) (frame 0xA9 0)
unfolding block sent hunted_with command_of
a_hunt_has_eight_frames = (
  Hunt (record { high = 0x0A; middle = 0xBC; low = 0xDE }) (Compare ∷ SearchLow 0x6E ∷ Compare ∷ SearchHigh 0x0B ∷ Compare ∷ []),
  ((refl, (refl, (refl, (refl, (refl, tt))))), lit≤ tt),
  (refl, tt, (refl, tt, (refl, tt, (refl, tt, (refl, tt, (refl, tt, (refl, tt, refl))))))),
)

-- A ninth may not; nor QUERY SHORT ADDRESS in a hunt; nor a search byte after the COMPARE of a probe.
a_hunt_has_no_ninth_frame : Lawful block [] (hunted_with (sent 0xB5 0x6E Silence ∷ sent 0xA9 0 Silence ∷ sent 0xB1 0x0B Silence ∷ sent 0xA9 0 Silence ∷ []))
    (frame 0xA9 0) → ⊥
unfolding block sent hunted_with command_of stage_of
a_hunt_has_no_ninth_frame lawful =
    let t = hunted_with (sent 0xB5 0x6E Silence ∷ sent 0xA9 0 Silence ∷ sent 0xB1 0x0B Silence ∷ sent 0xA9 0 Silence ∷ []) in
    let test : follows block [] (stage_of t) (command_of (frame 0xA9 0)) ≡ true =
    follows_test block [] (stage_of t) (command_of (frame 0xA9 0)) (follows_lawful block [] t (frame 0xA9 0) lawful) in
    cc

no_query_in_a_hunt : Lawful block reserved (hunted_with []) (frame 0xBB 0) → ⊥
unfolding block reserved sent hunted_with command_of stage_of
no_query_in_a_hunt lawful =
    let t = hunted_with [] in
    let test : follows block reserved (stage_of t) (command_of (frame 0xBB 0)) ≡ true =
    follows_test block reserved (stage_of t) (command_of (frame 0xBB 0)) (follows_lawful block reserved t (frame 0xBB 0) lawful) in
    cc

no_search_byte_after_a_probe : Lawful block reserved (searched_with (sent 0xA9 0 (Byte 0xFF) ∷ [])) (frame 0xB5 0x6E) → ⊥
unfolding block reserved sent searched_with command_of stage_of
no_search_byte_after_a_probe lawful =
    let t = searched_with (sent 0xA9 0 (Byte 0xFF) ∷ []) in
    let test : follows block reserved (stage_of t) (command_of (frame 0xB5 0x6E)) ≡ true =
    follows_test block reserved (stage_of t) (command_of (frame 0xB5 0x6E)) (follows_lawful block reserved t (frame 0xB5 0x6E) lawful) in
    cc
