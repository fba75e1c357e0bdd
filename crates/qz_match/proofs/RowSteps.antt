-- Rows of a table: one more row, and how they are asked.
use Rattle.std.proofs.Common.{◌≡◌, ◌≢◌, ℕ, zero, suc, ◌+◌, ◌-◌, ◌<◌, ◌≤◌, List, [], ◌∷◌, ◌++◌, length, map, get_or, take, Some, None, refl, sym, ap, ◌∙◌, subst, arith, ◌⊎◌, inl, inr}
use Rattle.std.specs.Prelude.{slice_set}
use Rattle.std.proofs.lemmas.Bool.{cases_eq, cases_lt}
use Rattle.std.proofs.lemmas.List.{length-take, take-take, length-map, length_push, get_or_append_left}
use Rattle.std.proofs.Math.Seq.{get_or-append_seam}
use Rattle.qz_circ.specs.ProgramCircuits.{ProgramCircuit}
use Rattle.qz_match.specs.declared.neighbours.Link.{Link}
use Rattle.qz_match.specs.declared.words.Word.{Word}
use Rattle.qz_match.specs.declared.rows.Row.{Row}
use Rattle.qz_match.specs.declared.rows.Cursor.{Cursor}
use Rattle.qz_match.specs.Words.{word_at, step_to, Leads, LeadsNowhere}
use Rattle.qz_match.specs.Rows.{words_of, words_at, row_at, IsRowOf, IsSkip, IsRowBehind, AreRows, IsCursor, NoneLeads, IsNext, IsAsked}
use Rattle.qz_match.proofs.Following.{word_same, leads_alike, leads_fewer}

pub words_at-row : (rows : List Row) (i : ℕ) → words_at (words_of rows) i ≡ (row_at rows i).words
words_at-row [] i = refl
words_at-row (row ∷ rows) zero = refl
words_at-row (row ∷ rows) (suc i) = words_at-row rows i

-- an element that is its own default is it for each other one
pub at_default : {A : Type 0} (xs : List A) (i : ℕ) (v d : A) → i < length xs → v ≡ get_or xs i v → v ≡ get_or xs i d
at_default [] i v d l e = absurd (omega arith)
at_default (x ∷ xs) zero v d l e = e
at_default (x ∷ xs) (suc i) v d l e = at_default xs i v d (omega arith) e

pub row_within : (rows : List Row) (x left : ℕ) → suc x ≡ left → left ≤ length (words_of rows) → x < length rows
row_within rows x left at within = omega (arith, length-map rows (λ row. row.words))

pub row_words : (rows : List Row) (x : ℕ) (row : Row) (words : List Word) → x < length rows → row ≡ get_or rows x row → words ≡ row.words → words ≡ words_at (words_of rows) x
row_words rows x row words l e is = is ∙ (λ k. (at_default rows x row (record { words = []; shared = 0; skips = [] }) l e k).words) ∙ sym (words_at-row rows x)

pub row_skip : (rows : List Row) (x r : ℕ) (row : Row) → AreRows rows → x < length rows → row ≡ get_or rows x row → r < 6 → (get_or row.skips r 0 ≡ get_or (row_at rows x).skips r 0) × (get_or row.skips r 0 ≤ x)
row_skip rows x r row h l e six =
    let same : get_or row.skips r 0 ≡ get_or (row_at rows x).skips r 0 = (λ k. get_or (at_default rows x row (record { words = []; shared = 0; skips = [] }) l e k).skips r 0) in
    let low = (h x l).within r six in
    (same, omega arith)

-- ---- one more row

pub no_rows : AreRows []
no_rows i l = absurd (omega arith)

row_kept : (rows : List Row) (row : Row) (i : ℕ) → i < length rows → row_at (rows ++ row ∷ []) i ≡ row_at rows i
row_kept rows row i l = get_or_append_left rows (row ∷ []) _ i l

row_last : (rows : List Row) (row : Row) → row_at (rows ++ row ∷ []) (length rows) ≡ row
row_last rows row = get_or-append_seam rows row [] _

-- what has the same first words has fewer the same
pub same_fewer : (xs ys : List Word) (k n : ℕ) → n ≤ k → take k xs ≡ take k ys → take n xs ≡ take n ys
same_fewer xs ys k n few same = sym (take-take n k xs few) ∙ ap (take n) same ∙ take-take n k ys few

-- a row shares its words with the one before it
pub left_shared : (rows : List Row) (x k : ℕ) (row : Row) → AreRows rows → x < length rows → row ≡ get_or rows x row → k ≤ row.shared → (j : ℕ) → suc j ≡ x → take k (words_at (words_of rows) x) ≡ take k (words_at (words_of rows) j)
left_shared rows x k row h l e few j at =
    let same = at_default rows x row (record { words = []; shared = 0; skips = [] }) l e in
    ap (take k) (words_at-row rows x) ∙ same_fewer (row_at rows x).words (row_at rows j).words (row_at rows x).shared k (subst (λ r. k ≤ r.shared) same few) ((h x l).shared j at) ∙ ap (take k) (sym (words_at-row rows j))

module _ (rows : List Row) (words : List Word) (row : Row) (h : AreRows rows) (new : IsRowBehind rows words row) where
  row_old : (i : ℕ) → i < length rows → IsRowOf (rows ++ row ∷ []) i
  row_old i l =
      let own = h i l in
      let same = row_kept rows row i l in
      record {
        shared = λ j e.
            let other = row_kept rows row j (omega arith) in
            (λ k. take (same k).shared (same k).words) ∙ own.shared j e ∙ (λ k. take (sym same k).shared (sym other k).words);
        within = λ r m. subst (λ s. s ≤ i) (λ k. get_or (sym same k).skips r 0) (own.within r m);
        alike = λ r j m a b.
            let other = row_kept rows row j (omega arith) in
            (λ k. take (suc r) (same k).words) ∙ own.alike r j m (subst (λ s. s ≤ j) (λ k. get_or (same k).skips r 0) a) b ∙ (λ k. take (suc r) (sym other k).words);
      }

  row_new : IsRowOf (rows ++ row ∷ []) (length rows)
  row_new =
      record {
        shared = λ j e.
            let other = row_kept rows row j (omega arith) in
            (λ k. take (same k).shared (same k).words) ∙ ap (take row.shared) new.is ∙ new.shared j e ∙ (λ k. take (sym same k).shared (sym other k).words);
        within = λ r m. subst (λ s. s ≤ length rows) (λ k. get_or (sym same k).skips r 0) (low r (new.skips r m) m);
        alike = λ r j m a b.
            let other = row_kept rows row j b in
            (λ k. take (suc r) (same k).words) ∙ ap (take (suc r)) new.is ∙ back r j m (subst (λ s. s ≤ j) (λ k. get_or (same k).skips r 0) a) b (new.skips r m) ∙ (λ k. take (suc r) (sym other k).words);
      }
    where
      same : row_at (rows ++ row ∷ []) (length rows) ≡ row
      same = row_last rows row

      low : (r : ℕ) → (get_or row.skips r 0 ≡ length rows) ⊎ ((j : ℕ) × (suc j ≡ length rows) × (r < row.shared) × (get_or row.skips r 0 ≡ get_or (row_at rows j).skips r 0)) → r < 6 → get_or row.skips r 0 ≤ length rows
      low r (inl e) m = omega arith
      low r (inr n) m = let skip = (h n.0 (let e = n.1 in omega arith)).within r m in let e = n.1 in let is = n.3 in omega arith

      back : (r j : ℕ) → r < 6 → get_or row.skips r 0 ≤ j → j < length rows → (get_or row.skips r 0 ≡ length rows) ⊎ ((i : ℕ) × (suc i ≡ length rows) × (r < row.shared) × (get_or row.skips r 0 ≡ get_or (row_at rows i).skips r 0)) → take (suc r) words ≡ take (suc r) (row_at rows j).words
      back r j m a b (inl e) = absurd (omega arith)
      back r j m a b (inr n) = by (cases_eq j n.0)
        where
          first : take (suc r) words ≡ take (suc r) (row_at rows n.0).words
          first = same_fewer words (row_at rows n.0).words row.shared (suc r) n.2 (new.shared n.0 n.1)

          by : (j ≡ n.0) ⊎ (j ≢ n.0) → take (suc r) words ≡ take (suc r) (row_at rows j).words
          by (inl e) = first ∙ ap (λ i. take (suc r) (row_at rows i).words) (sym e)
          by (inr other) = let e = n.1 in let is = n.3 in first ∙ (h n.0 (omega arith)).alike r j m (omega arith) (omega arith)

  pub rows_more : AreRows (rows ++ row ∷ [])
  rows_more i l = by (cases_eq i (length rows))
    where
      by : (i ≡ length rows) ⊎ (i ≢ length rows) → IsRowOf (rows ++ row ∷ []) i
      by (inl e) = subst (IsRowOf (rows ++ row ∷ [])) (sym e) row_new
      by (inr other) = let size = length_push rows row in row_old i (omega arith)

-- ---- asking

-- a row fails where another one does with which it has the words up to there alike
pub nowhere_alike : (c : ProgramCircuit) (links : List Link) (p : ℕ) (xs ys : List Word) (r : ℕ) (found : List ℕ) → take (suc r) xs ≡ take (suc r) ys → r < length xs → Leads c links p xs r found → step_to c links p found r (word_at xs r) ≡ None → LeadsNowhere c links p ys
nowhere_alike c links p xs ys r found same less leads stops =
    record {
      found = found;
      at = r;
      within = let sizes = ap length same in omega (arith, length-take (suc r) xs, length-take (suc r) ys);
      leads = leads_alike c links p xs ys (suc r) r found same (omega arith) leads;
      stops = ap (step_to c links p found r) (sym (word_same xs ys (suc r) r same (omega arith))) ∙ stops;
    }

module _ (c : ProgramCircuit) (links : List Link) (all : List (List Word)) (p : ℕ) (x r n : ℕ) (found : List ℕ) (new : Cursor) where
  -- the rows before one that was asked are left, or before one that has as many words alike with it as were seen
  pub cursor_behind : x < length all → n ≤ x → r ≤ length (words_at all x) → Leads c links p (words_at all x) r found → (n ≡ x) ⊎ (take (suc r) (words_at all x) ≡ take (suc r) (words_at all n)) → new.first ≡ p → new.found ≡ found → new.left ≡ n → new.kept ≤ r
      → ((j : ℕ) → suc j ≡ n → take new.kept (words_at all n) ≡ take new.kept (words_at all j)) → IsCursor c links all new
  cursor_behind within low few leads near first is left kept shared =
      record {
        within = omega arith;
        few = λ i e.
            let sizes = ap length (shared i (e ∙ left)) in
            let long = long near in
            omega (arith, length-take new.kept (words_at all n), length-take new.kept (words_at all i));
        leads = λ i e.
            subst (λ q. Leads c links q (words_at all i) new.kept new.found) (sym first)
            (subst (λ f. Leads c links p (words_at all i) new.kept f) (sym is)
            (leads_alike c links p (words_at all n) (words_at all i) new.kept new.kept found (shared i (e ∙ left)) (omega arith) (there near)));
      }
    where
      long : (n ≡ x) ⊎ (take (suc r) (words_at all x) ≡ take (suc r) (words_at all n)) → new.kept ≤ length (words_at all n)
      long (inl e) = subst (λ i. new.kept ≤ length (words_at all i)) (sym e) (omega arith)
      long (inr same) = let sizes = ap length same in omega (arith, length-take (suc r) (words_at all x), length-take (suc r) (words_at all n))

      there : (n ≡ x) ⊎ (take (suc r) (words_at all x) ≡ take (suc r) (words_at all n)) → Leads c links p (words_at all n) new.kept found
      there (inl e) = subst (λ i. Leads c links p (words_at all i) new.kept found) (sym e) (leads_fewer c links p (words_at all x) r new.kept found kept leads)
      there (inr same) = leads_alike c links p (words_at all x) (words_at all n) (suc r) new.kept found same (omega arith) (leads_fewer c links p (words_at all x) r new.kept found kept leads)

module _ (c : ProgramCircuit) (links : List Link) (rows : List Row) (h : AreRows rows) (old new : Cursor) (x r n : ℕ) (found : List ℕ) (at : suc x ≡ old.left) (within : x < length rows) (first : new.first ≡ old.first) (is : new.found ≡ found) (left : new.left ≡ n) (kept : new.kept ≤ r)
    (shared : (j : ℕ) → suc j ≡ n → take new.kept (words_at (words_of rows) n) ≡ take new.kept (words_at (words_of rows) j)) (leads : Leads c links old.first (words_at (words_of rows) x) r found) where
  size : length (words_of rows) ≡ length rows
  size = length-map rows (λ row. row.words)

  -- all words of the row lead somewhere
  pub row_leads : n ≡ x → r ≡ length (words_at (words_of rows) x) → IsNext c links (words_of rows) old new x
  row_leads same whole =
      let sizes = size in
      record {
        same = first;
        left = left ∙ same;
        within = omega arith;
        nowhere = λ i a b. absurd (omega arith);
        leads = subst (λ f. Leads c links old.first (words_at (words_of rows) x) (length (words_at (words_of rows) x)) f) (sym is) (subst (λ m. Leads c links old.first (words_at (words_of rows) x) m found) whole leads);
        cursor = cursor_behind c links (words_of rows) old.first x r n found new (omega arith) (omega arith) (omega arith) leads (inl same) first is left kept shared;
      }

  -- one of them leads nowhere
  pub row_fails : r < length (words_at (words_of rows) x) → r < 6 → n ≡ get_or (row_at rows x).skips r 0 → step_to c links old.first found r (word_at (words_at (words_of rows) x) r) ≡ None → IsAsked c links (words_of rows) old new
  row_fails less six skip stops =
      let sizes = size in
      let own = h x within in
      let low = own.within r six in
      record {
        same = first;
        fewer = omega arith;
        nowhere = λ i a b. nowhere_alike c links old.first (words_at (words_of rows) x) (words_at (words_of rows) i) r found (near i (omega arith) (omega arith) (cases_eq i x)) less leads stops;
        cursor = cursor_behind c links (words_of rows) old.first x r n found new (omega arith) (omega arith) (omega arith) leads (inr (near n (omega arith) (omega arith) (cases_eq n x))) first is left kept shared;
      }
    where
      near : (i : ℕ) → n ≤ i → i ≤ x → (i ≡ x) ⊎ (i ≢ x) → take (suc r) (words_at (words_of rows) x) ≡ take (suc r) (words_at (words_of rows) i)
      near i a b (inl e) = ap (λ j. take (suc r) (words_at (words_of rows) j)) (sym e)
      near i a b (inr other) = ap (take (suc r)) (words_at-row rows x) ∙ (h x within).alike r i six (omega arith) (omega arith) ∙ ap (take (suc r)) (sym (words_at-row rows i))

-- ---- one row after the other

module _ (c : ProgramCircuit) (links : List Link) (all : List (List Word)) where
  pub asked_start : (old : Cursor) → IsCursor c links all old → IsAsked c links all old old
  asked_start old h = record { same = refl; fewer = omega arith; nowhere = λ i a b. absurd (omega arith); cursor = h }

  pub asked_more : (old mid new : Cursor) → IsAsked c links all old mid → IsAsked c links all mid new → IsAsked c links all old new
  asked_more old mid new h k =
      let fewer = h.fewer in
      let less = k.fewer in
      record {
        same = k.same ∙ h.same;
        fewer = omega arith;
        nowhere = λ i a b. by i a b (cases_lt i mid.left);
        cursor = k.cursor;
      }
    where
      by : (i : ℕ) → new.left ≤ i → i < old.left → (i < mid.left) ⊎ (mid.left ≤ i) → LeadsNowhere c links old.first (words_at all i)
      by i a b (inl less) = subst (λ q. LeadsNowhere c links q (words_at all i)) h.same (k.nowhere i a less)
      by i a b (inr more) = h.nowhere i more b

  pub next_found : (old mid new : Cursor) (k : ℕ) → IsAsked c links all old mid → IsNext c links all mid new k → IsNext c links all old new k
  next_found old mid new k h n =
      let fewer = h.fewer in
      let within = n.within in
      record {
        same = n.same ∙ h.same;
        left = n.left;
        within = omega arith;
        nowhere = λ i a b. by i a b (cases_lt i mid.left);
        leads = subst (λ q. Leads c links q (words_at all k) (length (words_at all k)) new.found) h.same n.leads;
        cursor = n.cursor;
      }
    where
      by : (i : ℕ) → k < i → i < old.left → (i < mid.left) ⊎ (mid.left ≤ i) → LeadsNowhere c links old.first (words_at all i)
      by i a b (inl less) = subst (λ q. LeadsNowhere c links q (words_at all i)) h.same (n.nowhere i a less)
      by i a b (inr more) = h.nowhere i more b

  pub none_leads : (old mid : Cursor) → IsAsked c links all old mid → mid.left ≤ 0 → NoneLeads c links all old
  none_leads old mid h over = λ i b. h.nowhere i (omega arith) b

-- ---- the new row, behind a last one

pub row_after : (rows : List Row) (last : Row) (words copy : List Word) (shared : ℕ) (skips : List ℕ) → copy ≡ words → 0 < length rows → ((d : Row) → last ≡ get_or rows (length rows - 1) d) → take shared words ≡ take shared last.words → ((r : ℕ) → r < 6 → IsSkip last.skips shared (length rows) r (get_or skips r 0))
    → IsRowBehind rows words (record { words = copy; shared = shared; skips = skips })
row_after rows last words copy shared skips is some at same each =
    record {
      is = is;
      shared = λ j e. same ∙ (λ k. take shared (here j e k).words);
      skips = λ r six. by r (each r six);
    }
  where
    here : (j : ℕ) → suc j ≡ length rows → last ≡ row_at rows j
    here j e = let one : length rows - 1 ≡ j = omega arith in at (record { words = []; shared = 0; skips = [] }) ∙ ap (row_at rows) one

    by : (r : ℕ) → IsSkip last.skips shared (length rows) r (get_or skips r 0) → (get_or skips r 0 ≡ length rows) ⊎ ((j : ℕ) × (suc j ≡ length rows) × (r < shared) × (get_or skips r 0 ≡ get_or (row_at rows j).skips r 0))
    by r (inl e) = inl e
    by r (inr less) =
        let one : suc (length rows - 1) ≡ length rows = omega arith in
        inr (length rows - 1, one, less.0, less.1 ∙ (λ k. get_or (here (length rows - 1) one k).skips r 0))
