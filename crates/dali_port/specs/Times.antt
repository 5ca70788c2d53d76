use Rattle.std.specs.Prelude.{ℕ, ◌==◌, if◌then◌else◌}

-- THE TIMES OF A PORT in whole µs. All are from memory; each stands here once.

-- a half bit, 416.7 µs: within the 400 to 433 of a multi-master (IEC 62386-101:2014, transmitter
-- bit timing); and 17 bits, two half bits each
abbrev pub half_bit : ℕ
half_bit = 417

abbrev pub frame_time : ℕ
frame_time = 14178

-- HOW LONG THE BUS IS AT REST before a frame, by its priority: at least so long, and so much longer
-- at the most (IEC 62386-101:2014, multi-master transmitter frame sequence timing)
abbrev pub settling_of : ℕ → ℕ
settling_of priority =
    if priority == 1 then 13500
    else (if priority == 2 then 14900
    else (if priority == 3 then 16300
    else (if priority == 4 then 17900 else 19500)))

abbrev pub span_of : ℕ → ℕ
span_of priority =
    if priority == 1 then 1200
    else (if priority == 2 then 1200
    else (if priority == 3 then 1400
    else (if priority == 4 then 1400 else 1600)))

-- how long the level of the bus may differ from the level that is driven: transceivers, slopes and
-- late edges (a choice of this project: what receivers leave of a half bit, see README)
abbrev pub apart : ℕ
apart = 40

-- a break is longer than two half bits as any receiver reads them, 1,000 µs
-- (IEC 62386-101:2014, collision recovery: 1,200 to 1,400)
abbrev pub break_time : ℕ
break_time = 1300

-- from the beginning of the first frame of a pair to the end of the second
-- (IEC 62386-101:2014, send-twice forward frames)
abbrev pub pair_time : ℕ
pair_time = 100000

-- from the end of a pair of RANDOMISE on gear draw for so long (IEC 62386-102:2014, RANDOMISE)
abbrev pub draw_time : ℕ
draw_time = 100000

-- a bus that is low for so long has no power (IEC 62386-101:2014, bus power interruption)
abbrev pub power_time : ℕ
power_time = 500000
