-- Files in memory.
use Rattle.std.proofs.Common.{◌≡◌, ℕ, ◌+◌, ◌<◌, true, List, [], ◌∷◌, refl, length, get_or, drop, Some, sym, ◌∙◌, ap}
use Rattle.std.specs.Option.{option_map, unwrap_or}
use Rattle.std.specs.Str.{bytes_eq}
use Rattle.std.specs.String.{string_bytes}
use Rattle.std.proofs.lemmas.Bool.{cond-true}
use Rattle.std.proofs.lemmas.List.{drop_more}
use Rattle.std.proofs.lemmas.Option.{slice_get_read}
use Rattle.jul_base.specs.Shelves.{contents}
use Rattle.jul_base.specs.Memory.{Stored, files_of, bytes_at, name_at}

-- the file at a place, where none before it has the name
pub contents-found : (files : List Stored) (i : ℕ) (x : Stored) (name : List ℕ) → i < length files → x ≡ get_or files i x → bytes_eq (string_bytes x.0) name ≡ true →
    contents (files_of (drop i files)) name ≡ contents (files_of files) name → contents (files_of files) name ≡ Some (bytes_at files i)
contents-found files i x name lt is same before =
    sym before
    ∙ ap (λ fs. contents (files_of fs) name) (drop_more files i x lt)
    ∙ ap (λ (f : Stored). contents (files_of (f ∷ drop (i + 1) files)) name) (sym is)
    ∙ cond-true _ _ _ same
    ∙ ap (λ o. Some (unwrap_or (option_map (λ (f : Stored). f.1.items) o) [])) (sym (slice_get_read files (length files) i x refl lt is))

pub name_at-found : (files : List Stored) (i : ℕ) (x : Stored) → i < length files → x ≡ get_or files i x → name_at files i ≡ Some (string_bytes x.0)
name_at-found files i x lt is = ap (option_map (λ (f : Stored). string_bytes f.0)) (slice_get_read files (length files) i x refl lt is)
