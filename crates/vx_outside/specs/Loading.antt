-- What a load of a file does.
use Rattle.std.specs.Prelude.{◌≡◌, ℕ, ◌+◌, ◌≤◌, Bool, List, ◌++◌, length, take, Option, IfSome, is_some, is_none, find, ◌||◌, if◌then◌else◌}
use Rattle.std.specs.Option.{option_map}
use Rattle.std.specs.Str.{bytes_eq}
use Rattle.std.specs.Global.{Vec}
use Rattle.vx_io.specs.Memory.{Plan, fails_next, after_call, after_fault}

-- Bytes were appended, at most one more than the limit: of a file whose bytes are told the first of them.
abbrev pub Loads : Option (List ℕ) → ℕ → List ℕ → List ℕ → Type 0
Loads told limit old new =
    (loaded : List ℕ) × (new ≡ old ++ loaded) × (length loaded ≤ limit + 1) × IfSome told (λ bytes. loaded ≡ take (limit + 1) bytes)

-- The files in memory, each with its name, and which of their loads fail.
pub record Folder : Type 0 where
  pub files : List (List ℕ × Vec ℕ)
  pub plan : Plan

-- the bytes of the first file of a name
abbrev pub content_of : List (List ℕ × Vec ℕ) → List ℕ → Option (List ℕ)
content_of files name = option_map (λ file. file.1.items) (find (λ file. bytes_eq name file.0) files)

-- whether the next load, of this name, fails: it is told to, or no file has the name
abbrev pub load_fails : Folder → List ℕ → Bool
load_fails folder name = fails_next folder.plan || is_none (content_of folder.files name)

-- the plan after a load of this name, which counts a fault where it fails
abbrev pub after_load : Folder → List ℕ → Plan
after_load folder name = if fails_next folder.plan || is_some (content_of folder.files name) then after_call folder.plan else after_fault (after_call folder.plan)
