-- Limits and a seed have at most one report.
use Rattle.std.proofs.Common.{◌≡◌, ℕ, ◌*◌, length, ap, sym, ◌∙◌}
use Rattle.std.specs.Prelude.{sum_by}
use Rattle.qz_circ.proofs.ClassLaws.{lists_exactly_same, class_list_same}
use Rattle.qz_circ.specs.Bounds.{gate_count}
use Rattle.qz_circ.specs.Circuit.{Limits}
use Rattle.qz_circ.specs.declared.report.Report.{Report}
use Rattle.qz_repgen.specs.Journals.{IsKeptRank}
use Rattle.qz_repgen.specs.Numbers.{IsNumberOf}
use Rattle.qz_repgen.specs.Reports.{IsExtended, IsPrint, IsReport}

-- a fact holds of at most one number of numbers
pub number_same : (P : ℕ → Type 0) (k l : ℕ) → IsNumberOf P k → IsNumberOf P l → k ≡ l
number_same P k l hk hl = hk.all_of_them ∙ ap length (lists_exactly_same P hk.numbers hl.numbers hk.exactly hl.exactly) ∙ sym hl.all_of_them

pub report_same : (b : Limits) (seed : ℕ) (r s : Report) → IsReport b seed r → IsReport b seed s → r ≡ s
report_same b seed r s hr hs =
    let lists = class_list_same b hr.lists hs.lists hr.class_list hs.class_list in
    let extended = hr.extended ∙ ap (λ k. k * gate_count b) (number_same (IsExtended b) hr.representatives hs.representatives hr.each_representative hs.each_representative) ∙ sym hs.extended in
    let kept = number_same (IsKeptRank b) r.kept s.kept hr.kept hs.kept in
    let classes = hr.classes ∙ ap length lists ∙ sym hs.classes in
    let members = hr.members ∙ ap (λ xs. sum_by length xs) lists ∙ sym hs.members in
    let prints = number_same (IsPrint b seed) r.prints s.prints hr.prints hs.prints in
    λ i. record { extended = extended i; kept = kept i; classes = classes i; members = members i; prints = prints i }
