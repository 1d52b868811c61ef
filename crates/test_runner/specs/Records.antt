-- What the names of records begin with (profile).
use Rattle.std.specs.Prelude.{◌≡◌, ◌≢◌, ℕ, ◌++◌, List, slice_get, Some}
use Rattle.std.specs.Path.{path_file_name}

-- No file's own name, in whatever folder, begins so.
abbrev pub IsNoFile : (files : List (List ℕ)) → (name : List ℕ) → Type 0
IsNoFile files name = (k : ℕ) (file label : List ℕ) → slice_get files k ≡ Some file → path_file_name file ≢ Some (name ++ label)

-- No record is a tested file: none has a name that begins as those of a file's records.
abbrev pub AreNoFiles : (files names : List (List ℕ)) → Type 0
AreNoFiles files names = (k : ℕ) (name : List ℕ) → slice_get names k ≡ Some name → IsNoFile files name

-- No text begins as one of these names, and so too.
abbrev pub IsApartFrom : (names : List (List ℕ)) → (name : List ℕ) → Type 0
IsApartFrom names name = (k : ℕ) (other label another : List ℕ) → slice_get names k ≡ Some other → other ++ label ≢ name ++ another

-- No two files have a record of one name.
abbrev pub AreApart : (names : List (List ℕ)) → Type 0
AreApart names = (j k : ℕ) (one other label another : List ℕ) → slice_get names j ≡ Some one → slice_get names k ≡ Some other
    → one ++ label ≡ other ++ another → j ≡ k
