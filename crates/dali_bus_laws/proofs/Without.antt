use Rattle.std.proofs.Common.{◌≡◌, ℕ, ◌+◌, true, false, inl, [], ◌∷◌, refl, Some, arith, lit≤}
use Rattle.dali_frame.specs.declared.frames.Forward.{Forward as Bits}
use Rattle.dali_wire.specs.Levels.{bits_of, sent_levels, forward_bits}
use Rattle.dali_wire.specs.Reception.{receiver_at_first}
use Rattle.dali_wire.specs.declared.receiver.Frame.TheVariants.{Forward, Damaged}
use Rattle.dali_bus_laws.specs.Table.{Table, table}
use Rattle.dali_bus_laws.specs.Bus.{Edges, IsSeen, SeesFrom, first_read}
use Rattle.dali_bus_laws.specs.Pins.{AreEdgesOf, spaced}
use Rattle.dali_bus_laws.specs.Breaks.{IsHeld}

-- WITHOUT AN ASSUMPTION OF THE TABLE a frame whose port saw each edge in its time is not read, or one that was broken off is read as another.

abbrev frame : Bits
frame = record { address_byte = 0x55; opcode_byte = 0x54 }

-- what its port sees: each edge but the first one comes 40 us after it was driven; after the stop condition, another frame
abbrev driven : Edges
driven =
    (true, 20000) ∷ (false, 20457) ∷ (true, 21291) ∷ (false, 22125) ∷ (true, 22959) ∷ (false, 23793) ∷ (true, 24627) ∷ (false, 25461) ∷
    (true, 26295) ∷ (false, 27129) ∷ (true, 27963) ∷ (false, 28797) ∷ (true, 29631) ∷ (false, 30465) ∷ (true, 31299) ∷ (false, 32133) ∷
    (true, 32967) ∷ (false, 33384) ∷ (true, 33801) ∷ (false, 34218) ∷ (true, 36680) ∷ (false, 37097) ∷ []

-- rises and falls that come late by times which differ by 19 us: a half bit of 501 us
abbrev bus_apart : Edges
bus_apart =
    (true, 30000) ∷ (false, 479) ∷ (true, 834) ∷ (false, 834) ∷ (true, 834) ∷ (false, 834) ∷ (true, 834) ∷ (false, 834) ∷ (true, 834) ∷
    (false, 834) ∷ (true, 834) ∷ (false, 834) ∷ (true, 834) ∷ (false, 834) ∷ (true, 834) ∷ (false, 834) ∷ (true, 834) ∷ (false, 417) ∷ (true, 417) ∷
    (false, 417) ∷ (true, 2462) ∷ (false, 417) ∷ []

abbrev seen_apart : Edges
seen_apart =
    (true, 30000) ∷ (false, 501) ∷ (true, 834) ∷ (false, 834) ∷ (true, 834) ∷ (false, 834) ∷ (true, 834) ∷ (false, 834) ∷ (true, 834) ∷
    (false, 834) ∷ (true, 834) ∷ (false, 834) ∷ (true, 834) ∷ (false, 834) ∷ (true, 834) ∷ (false, 834) ∷ (true, 834) ∷ (false, 417) ∷ (true, 417) ∷
    (false, 417) ∷ (true, 2462) ∷ (false, 417) ∷ []

-- clocks that gain or lose 6 parts of 1,000: a stop condition of 2,396 us
abbrev bus_fast : Edges
bus_fast =
    (true, 30000) ∷ (false, 457) ∷ (true, 834) ∷ (false, 834) ∷ (true, 834) ∷ (false, 834) ∷ (true, 834) ∷ (false, 834) ∷ (true, 834) ∷
    (false, 834) ∷ (true, 834) ∷ (false, 834) ∷ (true, 834) ∷ (false, 834) ∷ (true, 834) ∷ (false, 834) ∷ (true, 834) ∷ (false, 417) ∷ (true, 417) ∷
    (false, 417) ∷ (true, 2429) ∷ (false, 417) ∷ []

abbrev seen_fast : Edges
seen_fast =
    (true, 30000) ∷ (false, 457) ∷ (true, 834) ∷ (false, 834) ∷ (true, 834) ∷ (false, 834) ∷ (true, 834) ∷ (false, 834) ∷ (true, 834) ∷
    (false, 834) ∷ (true, 834) ∷ (false, 834) ∷ (true, 834) ∷ (false, 834) ∷ (true, 834) ∷ (false, 834) ∷ (true, 834) ∷ (false, 417) ∷ (true, 417) ∷
    (false, 417) ∷ (true, 2396) ∷ (false, 417) ∷ []

-- a receiver that misses a low, and one that sees noise of its own
abbrev seen_deaf : Edges
seen_deaf =
    (true, 30000) ∷ (false, 457) ∷ (true, 834) ∷ (false, 834) ∷ (true, 2502) ∷ (false, 834) ∷ (true, 834) ∷ (false, 834) ∷ (true, 834) ∷
    (false, 834) ∷ (true, 834) ∷ (false, 834) ∷ (true, 834) ∷ (false, 834) ∷ (true, 834) ∷ (false, 417) ∷ (true, 417) ∷ (false, 417) ∷ (true, 2462) ∷
    (false, 417) ∷ []

abbrev seen_noise : Edges
seen_noise =
    (true, 30000) ∷ (false, 457) ∷ (true, 834) ∷ (false, 100) ∷ (true, 10) ∷ (false, 724) ∷ (true, 834) ∷ (false, 834) ∷ (true, 834) ∷ (false, 834) ∷
    (true, 834) ∷ (false, 834) ∷ (true, 834) ∷ (false, 834) ∷ (true, 834) ∷ (false, 834) ∷ (true, 834) ∷ (false, 834) ∷ (true, 834) ∷ (false, 417) ∷
    (true, 417) ∷ (false, 417) ∷ (true, 2462) ∷ (false, 417) ∷ []

-- a bus that a break does not hold low: another sender goes on with 55 55
abbrev bus_free : Edges
bus_free =
    (true, 30000) ∷ (false, 417) ∷ (true, 834) ∷ (false, 834) ∷ (true, 834) ∷ (false, 834) ∷ (true, 834) ∷ (false, 834) ∷ (true, 834) ∷
    (false, 834) ∷ (true, 834) ∷ (false, 834) ∷ (true, 834) ∷ (false, 834) ∷ (true, 834) ∷ (false, 834) ∷ (true, 834) ∷ (false, 834) ∷ (true, 3000) ∷ []

abbrev free_moments : Edges
free_moments =
    (true, 20000) ∷ (false, 20417) ∷ (true, 21251) ∷ (false, 22085) ∷ (true, 22919) ∷ (false, 23753) ∷ (true, 24587) ∷ (false, 25421) ∷
    (true, 26255) ∷ (false, 27089) ∷ (true, 27923) ∷ (false, 28757) ∷ (true, 29591) ∷ (false, 30425) ∷ (true, 31259) ∷ (false, 32093) ∷
    (true, 32927) ∷ (false, 33761) ∷ (true, 36761) ∷ []

driven_so : AreEdgesOf false 20000 (sent_levels (forward_bits frame)) driven
unfolding bits_of
driven_so = (
  refl,
  lit≤ tt,
  lit≤ tt,
  (
    refl,
    lit≤ tt,
    lit≤ tt,
    (
      refl,
      lit≤ tt,
      lit≤ tt,
      (
        refl,
        lit≤ tt,
        lit≤ tt,
        (
          refl,
          lit≤ tt,
          lit≤ tt,
          (
            refl,
            lit≤ tt,
            lit≤ tt,
            (
              refl,
              lit≤ tt,
              lit≤ tt,
              (
                refl,
                lit≤ tt,
                lit≤ tt,
                (
                  refl,
                  lit≤ tt,
                  lit≤ tt,
                  (
                    refl,
                    lit≤ tt,
                    lit≤ tt,
                    (
                      refl,
                      lit≤ tt,
                      lit≤ tt,
                      (
                        refl,
                        lit≤ tt,
                        lit≤ tt,
                        (
                          refl,
                          lit≤ tt,
                          lit≤ tt,
                          (
                            refl,
                            lit≤ tt,
                            lit≤ tt,
                            (
                              refl,
                              lit≤ tt,
                              lit≤ tt,
                              (
                                refl,
                                lit≤ tt,
                                lit≤ tt,
                                (
                                  refl,
                                  lit≤ tt,
                                  lit≤ tt,
                                  (refl, lit≤ tt, lit≤ tt, (refl, lit≤ tt, lit≤ tt, (refl, lit≤ tt, lit≤ tt, lit≤ tt))),
                                ),
                              ),
                            ),
                          ),
                        ),
                      ),
                    ),
                  ),
                ),
              ),
            ),
          ),
        ),
      ),
    ),
  ),
)

abbrev apart : Table
apart = record table { differ = 19 }

exact_apart : (n : ℕ) → IsSeen apart n n
exact_apart n = record { time = n; more = omega arith; less = omega arith; counts = (omega arith, omega arith) }

pub without_differ : AreEdgesOf false 20000 (sent_levels (forward_bits frame)) driven × SeesFrom apart bus_apart (spaced 20000 driven)
    × SeesFrom apart bus_apart seen_apart × (first_read receiver_at_first seen_apart 2400 ≡ Some Damaged)
without_differ = (
  driven_so,
  (
    refl,
    (
      refl,
      record { time = 460; more = lit≤ tt; less = lit≤ tt; counts = (lit≤ tt, lit≤ tt) },
      (
        refl,
        exact_apart 834,
        (
          refl,
          exact_apart 834,
          (
            refl,
            exact_apart 834,
            (
              refl,
              exact_apart 834,
              (
                refl,
                exact_apart 834,
                (
                  refl,
                  exact_apart 834,
                  (
                    refl,
                    exact_apart 834,
                    (
                      refl,
                      exact_apart 834,
                      (
                        refl,
                        exact_apart 834,
                        (
                          refl,
                          exact_apart 834,
                          (
                            refl,
                            exact_apart 834,
                            (
                              refl,
                              exact_apart 834,
                              (
                                refl,
                                exact_apart 834,
                                (
                                  refl,
                                  exact_apart 834,
                                  (
                                    refl,
                                    exact_apart 834,
                                    (
                                      refl,
                                      exact_apart 417,
                                      (refl, exact_apart 417, (refl, exact_apart 417, (refl, exact_apart 2462, (refl, exact_apart 417, tt)))),
                                    ),
                                  ),
                                ),
                              ),
                            ),
                          ),
                        ),
                      ),
                    ),
                  ),
                ),
              ),
            ),
          ),
        ),
      ),
    ),
  ),
  (
    refl,
    (
      refl,
      record { time = 498; more = lit≤ tt; less = lit≤ tt; counts = (lit≤ tt, lit≤ tt) },
      (
        refl,
        exact_apart 834,
        (
          refl,
          exact_apart 834,
          (
            refl,
            exact_apart 834,
            (
              refl,
              exact_apart 834,
              (
                refl,
                exact_apart 834,
                (
                  refl,
                  exact_apart 834,
                  (
                    refl,
                    exact_apart 834,
                    (
                      refl,
                      exact_apart 834,
                      (
                        refl,
                        exact_apart 834,
                        (
                          refl,
                          exact_apart 834,
                          (
                            refl,
                            exact_apart 834,
                            (
                              refl,
                              exact_apart 834,
                              (
                                refl,
                                exact_apart 834,
                                (
                                  refl,
                                  exact_apart 834,
                                  (
                                    refl,
                                    exact_apart 834,
                                    (
                                      refl,
                                      exact_apart 417,
                                      (refl, exact_apart 417, (refl, exact_apart 417, (refl, exact_apart 2462, (refl, exact_apart 417, tt)))),
                                    ),
                                  ),
                                ),
                              ),
                            ),
                          ),
                        ),
                      ),
                    ),
                  ),
                ),
              ),
            ),
          ),
        ),
      ),
    ),
  ),
  refl,
)

abbrev fast : Table
fast = record table { clock = 6 }

exact_fast : (n : ℕ) → IsSeen fast n n
exact_fast n = record { time = n; more = omega arith; less = omega arith; counts = (omega arith, omega arith) }

pub without_clock : AreEdgesOf false 20000 (sent_levels (forward_bits frame)) driven × SeesFrom fast bus_fast (spaced 20000 driven)
    × SeesFrom fast bus_fast seen_fast × (first_read receiver_at_first seen_fast 2400 ≡ Some Damaged)
without_clock = (
  driven_so,
  (
    refl,
    (
      refl,
      exact_fast 457,
      (
        refl,
        exact_fast 834,
        (
          refl,
          exact_fast 834,
          (
            refl,
            exact_fast 834,
            (
              refl,
              exact_fast 834,
              (
                refl,
                exact_fast 834,
                (
                  refl,
                  exact_fast 834,
                  (
                    refl,
                    exact_fast 834,
                    (
                      refl,
                      exact_fast 834,
                      (
                        refl,
                        exact_fast 834,
                        (
                          refl,
                          exact_fast 834,
                          (
                            refl,
                            exact_fast 834,
                            (
                              refl,
                              exact_fast 834,
                              (
                                refl,
                                exact_fast 834,
                                (
                                  refl,
                                  exact_fast 834,
                                  (
                                    refl,
                                    exact_fast 834,
                                    (
                                      refl,
                                      exact_fast 417,
                                      (
                                        refl,
                                        exact_fast 417,
                                        (
                                          refl,
                                          exact_fast 417,
                                          (
                                            refl,
                                            record { time = 2447; more = lit≤ tt; less = lit≤ tt; counts = (lit≤ tt, lit≤ tt) },
                                            (refl, exact_fast 417, tt),
                                          ),
                                        ),
                                      ),
                                    ),
                                  ),
                                ),
                              ),
                            ),
                          ),
                        ),
                      ),
                    ),
                  ),
                ),
              ),
            ),
          ),
        ),
      ),
    ),
  ),
  (
    refl,
    (
      refl,
      exact_fast 457,
      (
        refl,
        exact_fast 834,
        (
          refl,
          exact_fast 834,
          (
            refl,
            exact_fast 834,
            (
              refl,
              exact_fast 834,
              (
                refl,
                exact_fast 834,
                (
                  refl,
                  exact_fast 834,
                  (
                    refl,
                    exact_fast 834,
                    (
                      refl,
                      exact_fast 834,
                      (
                        refl,
                        exact_fast 834,
                        (
                          refl,
                          exact_fast 834,
                          (
                            refl,
                            exact_fast 834,
                            (
                              refl,
                              exact_fast 834,
                              (
                                refl,
                                exact_fast 834,
                                (
                                  refl,
                                  exact_fast 834,
                                  (
                                    refl,
                                    exact_fast 834,
                                    (
                                      refl,
                                      exact_fast 417,
                                      (
                                        refl,
                                        exact_fast 417,
                                        (
                                          refl,
                                          exact_fast 417,
                                          (
                                            refl,
                                            record { time = 2411; more = lit≤ tt; less = lit≤ tt; counts = (lit≤ tt, lit≤ tt) },
                                            (refl, exact_fast 417, tt),
                                          ),
                                        ),
                                      ),
                                    ),
                                  ),
                                ),
                              ),
                            ),
                          ),
                        ),
                      ),
                    ),
                  ),
                ),
              ),
            ),
          ),
        ),
      ),
    ),
  ),
  refl,
)

pub without_hearing : (first_read receiver_at_first seen_deaf 2400 ≡ Some Damaged) × (first_read receiver_at_first seen_noise 2400 ≡ Some Damaged)
without_hearing = (refl, refl)

pub without_late : IsHeld false (33385 + 20000) (33385 + 1300) free_moments
    × (first_read receiver_at_first bus_free 2400 ≡ Some (Forward (record { address_byte = 0x55; opcode_byte = 0x55 })))
without_late = (
  inl (
    lit≤ tt,
    inl (
      lit≤ tt,
      inl (
        lit≤ tt,
        inl (
          lit≤ tt,
          inl (
            lit≤ tt,
            inl (
              lit≤ tt,
              inl (
                lit≤ tt,
                inl (
                  lit≤ tt,
                  inl (
                    lit≤ tt,
                    inl (
                      lit≤ tt,
                      inl (
                        lit≤ tt,
                        inl
                            (lit≤ tt, inl (lit≤ tt, inl (lit≤ tt, inl (lit≤ tt, inl (lit≤ tt, inl (lit≤ tt, inl (lit≤ tt, inl (lit≤ tt, refl)))))))),
                      ),
                    ),
                  ),
                ),
              ),
            ),
          ),
        ),
      ),
    ),
  ),
  refl,
)
