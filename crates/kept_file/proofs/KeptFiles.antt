-- Month files as a C program keeps them: what each call answers, and the promises of `specs/Laws`. Assumes nothing.
use mathlib.Core.Path.{◌≡◌, refl, sym, ap, subst, ◌∙◌}
use mathlib.Core.Bool.{Bool, true, false, cond}
use mathlib.Core.List.{List, ◌++◌}
use mathlib.Core.Logic.{by_cases}
use Prim.Native.Nat.{ℕ, ◌≤◌, ◌<◌}
use native.Mathlib.Decide.{ℕ_discrete}
use native.Mathlib.Omega.{arith}
use borrow.Author.Tests.{ltb-true, lt-ltb, ne_eqb}
use lib.Dec.{ltb}
use lib.IntN.{ℤ}
use lib.ListN.{length, take, drop}
use lib.Seq.{length-take-le}
use Rattle.plants.specs.declared.Plant.{Plant}
use Rattle.records.specs.Records.{put_rows, rows_of, table_rows, table_places}
use Rattle.records.proofs.Rows as rows
use Rattle.records.proofs.Rows.{length-rows}
use Rattle.records.proofs.Whole.{places, whole, length-whole}
use Rattle.records.proofs.Places.{rows_joined, rows_taken, written_anew, unwritten}
use Rattle.file_lines.specs.declared.FileStage.{FileStage}
use Rattle.file_lines.specs.declared.FileStage.TheVariants.{First, Gathering, Metering, Refused}
use Rattle.file_lines.specs.declared.MonthFile.{MonthFile}
use Rattle.file_lines.specs.State.{Kept, kept, Valid}
use Rattle.month_file.specs.Bytes.{Reading}
use Rattle.month_file.specs.Machine.{reading_of, Fed}
use Rattle.month_file.specs.Run.{Place, place}
use Rattle.month_file.proofs.Parts.{refused-progress, skipped}
use Rattle.file_calls.specs.declared.FinishAnswer.{FinishAnswer}
use Rattle.file_calls.specs.Checking.{FedAny, FinishedAny}
use Rattle.file_calls.proofs.Checked.{feed_good}
use Rattle.kept_file.specs.declared.KeptFile.{KeptFile}
use Rattle.kept_file.specs.Files.{stage_of, stage_number, file_of, kept_at, kept_file_of, KeptLists, kept_lists, meant, FileFed, FileFinished}
use Rattle.kept_file.specs.Laws.{Files}
use Rattle.kept_month.proofs.Kept.{months}

-- ---- the state

stage_back : (s : FileStage) → stage_of (stage_number s) ≡ s
unfolding stage_of stage_number
stage_back First = refl
stage_back Gathering = refl
stage_back Metering = refl
stage_back Refused = refl

pub files : Files
unfolding file_of kept_file_of kept_at
files = record { back = λ f. rw (stage_back f.stage, months.back f.month) }

-- kept with the number that its stage had
back_at : (k : KeptFile) → file_of (kept_at k.stage (file_of k)) ≡ file_of k
unfolding file_of kept_at
back_at k = rw (months.back _)

read_refused : (n : ℕ) → 2 < n → stage_of n ≡ Refused
unfolding stage_of
read_refused n h = rw (ne_eqb n 0 (λ e. omega arith), ne_eqb n 1 (λ e. omega arith), ne_eqb n 2 (λ e. omega arith))

-- ---- a part after a refusal

going : FileStage → Type 0
going Refused = ⊥
going s = Unit

module _ {f g : MonthFile} {k q : Kept} {line part after : List ℕ} (s : f.stage ≡ Refused) (v : Valid f k) (long : 8192 ≤ length line) (same : length after ≡ length line) (h : Fed f k line part g q after) where
  stood : reading_of g q after ≡ reading_of f k line
  stood = h.stands ∙ sym (skipped v line part 0 s).stands

  begun_same : take f.length after ≡ take f.length line
  unfolding reading_of
  begun_same =
      let e : take g.length after ≡ take f.length line = ap (λ (r : Reading). r.line) stood in
      let alike : g.length ≡ f.length =
      omega (arith, ap length e, length-take-le g.length after (omega (arith, h.valid.short)), length-take-le f.length line (omega (arith, v.short))) in
      rw alike at e

  -- the state of before stands for what was read, with the lists of after
  pub refused_stays : Fed f k line part f q after
  unfolding reading_of going
  refused_stays =
      record {
        valid =
            record {
              lent = h.valid.lent;
              short = v.short;
              begun = λ e. absurd (subst going (sym e ∙ s) tt);
              gathering = λ e. absurd (subst going (sym e ∙ s) tt);
              settling = λ e. absurd (subst going (sym e ∙ s) tt);
            };
        stands =
            (λ x. record { line = begun_same x; count = f.count; progress = (refused-progress f q s ∙ sym (refused-progress f k s)) x })
            ∙ (skipped v line part 0 s).stands;
      }

-- ---- feed

pub fed_short : {k : KeptFile} {columns profile allotted line part : List ℕ} {accounts : List ℤ} {n : ℕ} → length columns < table_places → n ≡ 30
    → FileFed k (kept_lists columns profile allotted accounts) line part (record { number = n; file = k }) (kept_lists columns profile allotted accounts) line
fed_short {columns = columns} few e =
    record {
      short = λ _. e;
      fed = λ h. absurd (omega (arith, few, h));
      columns = sym (rows.columns.back columns);
      same = λ _. (refl, refl, refl);
      stays = λ z _. absurd (omega (arith, z, e));
    }

-- the table at the front of the columns has their rows
front_rows : (columns : List ℕ) → table_places ≤ length columns → {table : List ℕ} → table ≡ take table_places columns → table_rows table ≡ rows_of 512 columns
front_rows columns long {table} q =
    whole table (ap length q ∙ length-take-le table_places columns long) ∙ (ap (rows_of 512) q ∙ rows_taken columns long)

-- The rows are read from the columns, fed, and written back
module _ (k : KeptFile) (columns profile allotted line part : List ℕ) (accounts : List ℤ) (long : table_places ≤ length columns) where
  abbrev lists : KeptLists
  lists = kept_lists columns profile allotted accounts

  module _ {f g : MonthFile} {ps qs : List Plant} {profile₁ allotted₁ line₁ : List ℕ} {accounts₁ : List ℤ} {n : ℕ} (p : f ≡ file_of k) (r : ps ≡ rows_of 512 columns)
      (h : FedAny (place f (kept ps profile allotted accounts) line) part n (place g (kept qs profile₁ allotted₁ accounts₁) line₁)) where
    as_meant : FedAny (place (file_of k) (meant lists) line) part n (place g (kept qs profile₁ allotted₁ accounts₁) line₁)
    unfolding meant
    as_meant = rw (← p, ← r) h

    pub fed_refused : {m : ℕ} → m ≡ n → (n ≡ 0 → ⊥) → FileFed k lists line part (record { number = m; file = k }) (kept_lists columns profile₁ allotted₁ accounts₁) line₁
    unfolding meant
    fed_refused t ne =
        let e = as_meant.refused ne in
        let listed : kept_lists columns profile₁ allotted₁ accounts₁ ≡ lists = ap (λ (a : Place). kept_lists columns a.lists.profile a.lists.allotted a.lists.accounts) e in
        let lined : line₁ ≡ line = ap (λ (a : Place). a.line) e in
        rw t
        (record {
          short = λ few. absurd (omega (arith, long, few));
          fed = λ _.
              subst (λ (b : Place). FedAny (place (file_of k) (meant lists) line) part n b)
              (e ∙ (λ x. place (file_of k) (meant (sym listed x)) (sym lined x)))
              as_meant;
          columns = sym (rows.columns.back columns);
          same = λ _. (refl, listed, lined);
          stays = λ z _. absurd (ne z);
        })

    module _ (z : n ≡ 0) (many : length qs ≡ length ps) (lined : length line₁ ≡ length line) where
      -- what is handed back stands for the state after the part
      state_after : (b : Bool) → ltb 2 k.stage ≡ b
          → FedAny (place (file_of k) (meant lists) line) part n (place (file_of (cond b (kept_at k.stage (file_of k)) (kept_file_of g))) (kept qs profile₁ allotted₁ accounts₁) line₁)
      unfolding file_of
      state_after false t = rw (files.back g) as_meant
      state_after true t =
          let good = feed_good as_meant.number z in
          rw (back_at k)
          (record {
            number = as_meant.number;
            refused = λ ne. absurd (ne z);
            taken = λ _. refused_stays (read_refused k.stage (ltb-true 2 k.stage t)) good.1 good.0 lined (as_meant.taken z);
          })

      pub fed_taken : {columns₁ : List ℕ} → columns₁ ≡ put_rows columns 0 qs → {file : KeptFile} → file ≡ cond (ltb 2 k.stage) (kept_at k.stage (file_of k)) (kept_file_of g)
          → FileFed k lists line part (record { number = n; file = file }) (kept_lists columns₁ profile₁ allotted₁ accounts₁) line₁
      unfolding meant
      fed_taken {columns₁} w {file} e =
          let held : rows_of 512 columns₁ ≡ qs = ap (rows_of 512) w ∙ rows.columns.read columns qs long (many ∙ ap length r ∙ length-rows 512 columns) in
          record {
            short = λ few. absurd (omega (arith, long, few));
            fed = λ _. rw (e, held) (state_after (ltb 2 k.stage) refl);
            columns = w ∙ ap (put_rows columns 0) (sym held);
            same = λ ne. absurd (ne z);
            stays = λ _ s. e ∙ ap (λ (b : Bool). cond b (kept_at k.stage (file_of k)) (kept_file_of g)) (lt-ltb 2 k.stage s);
          }

-- The table is the front of the columns; it comes back as d, and what lies behind it stays
module _ (k : KeptFile) (columns profile allotted line part : List ℕ) (accounts : List ℤ) (long : table_places ≤ length columns) (d : List ℕ) where
  abbrev columns₁ : List ℕ
  columns₁ = d ++ drop table_places columns

  module _ {f g : MonthFile} {table profile₁ allotted₁ line₁ : List ℕ} {accounts₁ : List ℤ} {n : ℕ} (p : f ≡ file_of k) (r : table ≡ take table_places columns)
      (h : FedAny (place f (kept (table_rows table) profile allotted accounts) line) part n (place g (kept (table_rows d) profile₁ allotted₁ accounts₁) line₁)) where
    lent : table_rows table ≡ rows_of 512 columns
    lent = front_rows columns long r

    -- the table that comes back is a whole one too
    many : length d ≡ table_places
    many = places d (by_cases (ℕ_discrete n 0) (λ z. omega (arith, (h.taken z).valid.lent.plants))
        (λ ne. let e : length (table_rows d) ≡ length (table_rows table) = ap (λ (a : Place). length a.lists.plants) (h.refused ne) in omega (arith, e, ap length lent, length-rows 512 columns)))

    pub front_refused : {m : ℕ} → m ≡ n → (n ≡ 0 → ⊥) → FileFed k (kept_lists columns profile allotted accounts) line part (record { number = m; file = k }) (kept_lists columns₁ profile₁ allotted₁ accounts₁) line₁
    front_refused t ne =
        let back : rows_of 512 d ≡ rows_of 512 columns = sym (whole d many) ∙ (ap (λ (a : Place). a.lists.plants) (h.refused ne) ∙ lent) in
        rw (unwritten columns d long many back) (fed_refused k columns profile allotted line part accounts long p lent h t ne)

    pub front_taken : n ≡ 0 → length line₁ ≡ length line → {file : KeptFile} → file ≡ cond (ltb 2 k.stage) (kept_at k.stage (file_of k)) (kept_file_of g)
        → FileFed k (kept_lists columns profile allotted accounts) line part (record { number = n; file = file }) (kept_lists columns₁ profile₁ allotted₁ accounts₁) line₁
    front_taken z lined e =
        let held : rows_of 512 columns₁ ≡ table_rows d = rows_joined d (drop table_places columns) many ∙ sym (whole d many) in
        fed_taken k columns profile allotted line part accounts long p lent h z (omega (arith, length-whole d many, ap length lent, length-rows 512 columns)) lined
        (written_anew columns d long many ∙ ap (put_rows columns 0) held) e

-- ---- finish

pub finished_long : {k : KeptFile} {columns profile allotted line text after : List ℕ} {accounts : List ℤ} {f : MonthFile} {ps : List Plant} {r x : FinishAnswer}
    → table_places ≤ length columns → f ≡ file_of k → ps ≡ rows_of 512 columns → x ≡ r
    → FinishedAny (place f (kept ps profile allotted accounts) line) text r after → FileFinished k (kept_lists columns profile allotted accounts) line text x after
unfolding meant
finished_long long p q e h = record { short = λ few. absurd (omega (arith, few, long)); finished = λ _. rw (e, ← p, ← q) h }

pub front_finished : {k : KeptFile} {columns profile allotted line text after table : List ℕ} {accounts : List ℤ} {f : MonthFile} {r x : FinishAnswer}
    → table_places ≤ length columns → f ≡ file_of k → table ≡ take table_places columns → x ≡ r
    → FinishedAny (place f (kept (table_rows table) profile allotted accounts) line) text r after → FileFinished k (kept_lists columns profile allotted accounts) line text x after
front_finished {columns = columns} long p q e h = finished_long long p (front_rows columns long q) e h
