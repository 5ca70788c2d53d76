use Rattle.std.specs.Prelude.{◌≡◌, ◌≤◌, ◌⊎◌, ℕ, zero, suc, List, ◌++◌, codes}

-- THE FOLDER OF A FILE, and its name there
abbrev pub IsParted : List ℕ → List ℕ → List ℕ → Type 0
IsParted name folder file =
    ((folder ≡ codes ".") × (file ≡ name))
    ⊎ ((name ≡ folder ++ (codes "/" ++ file))
    ⊎ ((folder ≡ codes "/") × (name ≡ codes "/" ++ file)))

-- a name in a folder
abbrev pub IsJoined : List ℕ → List ℕ → List ℕ → Type 0
IsJoined folder file at = (at ≡ folder ++ file) ⊎ (at ≡ folder ++ (codes "/" ++ file))

-- where a link leads, from the folder in which it lies
abbrev pub IsLed : List ℕ → List ℕ → List ℕ → Type 0
IsLed name to at =
    (at ≡ to)
    ⊎ ((folder : List ℕ) × (file : List ℕ) × IsParted name folder file × IsJoined folder to at)

-- where a name leads by so many links, each read where the one before has led
abbrev pub AreLed : ℕ → List ℕ → List ℕ → Type 0
AreLed zero name at = at ≡ name
AreLed (suc links) name at =
    (before : List ℕ) × (to : List ℕ) × AreLed links name before × IsLed before to at

-- A FILE LIES, by its name, where at most eight links lead: it has the name that it has there, in
-- the folder in which it lies, whatever that is called; or what leads there is its place itself
abbrev pub Lies : List ℕ → List ℕ → Type 0
Lies name at =
    (links : ℕ)
    × (end : List ℕ)
    × (links ≤ 8)
    × AreLed links name end
    × ((at ≡ end)
    ⊎ ((folder : List ℕ)
    × (file : List ℕ)
    × (real : List ℕ)
    × IsParted end folder file
    × IsJoined real file at))
