-- The files of a list, looked through in order.
use Rattle.std.proofs.Common.{◌≡◌, ℕ, suc, ◌<◌, true, if◌then◌else◌, List, ◌∷◌, length, get_or, drop, Some, refl, sym, ap, ◌∙◌, drop-cons}
use Rattle.std.specs.Prelude.{option_map}
use Rattle.std.specs.Str.{bytes_eq}
use Rattle.std.proofs.lemmas.Option.{slice_get_read}
use Rattle.qz_io.specs.Files.{File, files_of}
use Rattle.qz_io.specs.SureShelf.{bytes_at}

-- the k-th file has the name, and no earlier one has
pub bytes_at-found : (files : List File) (name : List ℕ) (k : ℕ) (file : File) → k < length files → file ≡ get_or files k file
    → bytes_eq file.name name ≡ true → files_of (drop k files) name ≡ files_of files name → bytes_at files k ≡ files_of files name
bytes_at-found files name k file within is named unseen =
    let here : bytes_at files k ≡ Some file.bytes =
    ap (option_map (λ (f : File). f.bytes)) (slice_get_read files (length files) k file refl within is) in
    let behind : files_of (drop k files) name ≡ files_of (file ∷ drop (suc k) files) name =
    ap (λ xs. files_of xs name) (drop-cons files k file within) ∙ ap (λ f. files_of (f ∷ drop (suc k) files) name) (sym is) in
    let chosen : files_of (file ∷ drop (suc k) files) name ≡ Some file.bytes =
    ap (λ b. if b then Some file.bytes else files_of (drop (suc k) files) name) named in
    here ∙ sym chosen ∙ sym behind ∙ unseen
