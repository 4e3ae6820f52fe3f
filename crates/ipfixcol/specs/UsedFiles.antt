-- Which regular files a Site has in use, and what its calls do to that. The system tells a regular file by its device and
-- its number there, under whatever path it was opened.
use Rattle.std.specs.Prelude.{ℕ, ◌≡◌, ◌==◌, ◌&&◌, ◌||◌, ◌++◌, ◌⊎◌, not, filter, Bool, false, List, [], ◌∷◌, String, string_bytes, bytes_eq, Option, Some, None, IfSome}
use Rattle.std.specs.List.{list_any}
use Rattle.std.specs.declared.alloc.Global.{Global}
use Rattle.ipfixcol.specs.declared.used_files.FileIdentity.{FileIdentity}
use Rattle.ipfixcol.specs.declared.used_files.UsedFile.{UsedFile}
use Rattle.ipfixcol.specs.declared.used_files.UsedFiles.{UsedFiles}

-- both are one file
abbrev pub is_same : FileIdentity → FileIdentity → Bool
is_same one other = one.device == other.device && one.number == other.number

-- whether that file is one of these
abbrev pub is_text : FileIdentity → List FileIdentity → Bool
is_text identity texts = list_any (λ text. is_same identity text) texts

-- whether one of these has that file
abbrev pub is_among : FileIdentity → List UsedFile → Bool
is_among identity files = list_any (λ file. is_same identity file.identity) files

-- whether it is the file of a text, of a source or of a sink
abbrev pub is_used : FileIdentity → UsedFiles → Bool
is_used identity used = is_text identity used.texts.items || is_among identity used.sources.items || is_among identity used.sinks.items

abbrev pub is_named : List ℕ → UsedFile → Bool
is_named name file = bytes_eq (string_bytes file.name) name

-- the files but for that of this name
abbrev pub without : List ℕ → List UsedFile → List UsedFile
without name files = filter (λ file. not (is_named name file)) files

-- what is kept of a file: nothing where it is no regular one
abbrev pub kept : String Global → Option FileIdentity → List UsedFile
kept name None = []
kept name (Some identity) = record { name = name; identity = identity } ∷ []

-- a text was opened, and its file is in use if it is a regular one
pub record AddsText (old new : UsedFiles) : Type 0 where
  pub texts : (new.texts.items ≡ old.texts.items) ⊎ ((identity : FileIdentity) × (new.texts.items ≡ old.texts.items ++ identity ∷ []))
  pub sources : new.sources.items ≡ old.sources.items
  pub sinks : new.sinks.items ≡ old.sinks.items

-- a source was opened at a path, and its file is in use if it is a regular one
pub record AddsSource (path : List ℕ) (old new : UsedFiles) : Type 0 where
  pub name : String Global
  pub identity : Option FileIdentity
  pub called : string_bytes name ≡ path
  pub texts : new.texts.items ≡ old.texts.items
  pub sources : new.sources.items ≡ old.sources.items ++ kept name identity
  pub sinks : new.sinks.items ≡ old.sinks.items

-- a sink was opened at a path, and its file is in use if it is a regular one, which was not in use before
pub record AddsSink (path : List ℕ) (old new : UsedFiles) : Type 0 where
  pub name : String Global
  pub identity : Option FileIdentity
  pub called : string_bytes name ≡ path
  pub texts : new.texts.items ≡ old.texts.items
  pub sources : new.sources.items ≡ old.sources.items
  pub sinks : new.sinks.items ≡ old.sinks.items ++ kept name identity
  pub apart : IfSome identity (λ file. is_used file old ≡ false)

-- no file came into use, and none went out of it
pub record SameFiles (old new : UsedFiles) : Type 0 where
  pub texts : new.texts.items ≡ old.texts.items
  pub sources : new.sources.items ≡ old.sources.items
  pub sinks : new.sinks.items ≡ old.sinks.items

-- a source of that name came back
pub record ReturnsSource (name : List ℕ) (old new : UsedFiles) : Type 0 where
  pub texts : new.texts.items ≡ old.texts.items
  pub sources : new.sources.items ≡ without name old.sources.items
  pub sinks : new.sinks.items ≡ old.sinks.items

-- a sink of that name came back
pub record ReturnsSink (name : List ℕ) (old new : UsedFiles) : Type 0 where
  pub texts : new.texts.items ≡ old.texts.items
  pub sources : new.sources.items ≡ old.sources.items
  pub sinks : new.sinks.items ≡ without name old.sinks.items
