-- P and H lines that are taken. Assumes nothing.
use mathlib.Core.Path.{◌≡◌, refl, sym, ap, ap₂, ◌∙◌}
use mathlib.Core.Bool.{cond}
use mathlib.Core.List.{List, [], ◌∷◌, ◌++◌}
use Prim.Native.Nat.{ℕ, ◌+◌, ◌≤◌, ◌<◌}
use native.Mathlib.Numerals.{add-one}
use native.Mathlib.Omega.{arith}
use borrow.Author.Tests.{lt-ltb, le-ltb, eq-eqb, ne_eqb}
use lib.Dec.{eqb}
use lib.ListN.{length, take, set, get_or, length-set, length-append}
use lib.Seq.{take-suc-set, length-take-le}
use Rattle.plants.specs.declared.Plant.{Plant}
use Rattle.file_lines.specs.declared.FileStage.TheVariants as stage
use Rattle.file_lines.specs.declared.MonthFile.{MonthFile}
use Rattle.file_lines.specs.File.{Progress, gathers, plant_of, opened, taken}
use Rattle.file_lines.specs.State.{Kept, kept, sizes_of, progress_at, progress_of, Lent, Gathering, Valid, Moved, at_stage, opened_of}
use Rattle.file_lines.proofs.Moves.{lent_as, gathered, moved_as, gathers_moved}

pub gathers_is : (f : MonthFile) (k : Kept) → f.stage ≡ stage.Gathering → progress_of f k ≡ gathers (sizes_of f) (take f.rows k.plants) (take f.figures k.profile)
unfolding progress_at progress_of
gathers_is f k e = rw e

-- the lists with another plant table; with another profile
abbrev pub with_plants : Kept → List Plant → Kept
with_plants k plants = kept plants k.profile k.allotted k.accounts

abbrev pub with_profile : Kept → List ℕ → Kept
with_profile k profile = kept k.plants profile k.allotted k.accounts

module _ {f : MonthFile} {k : Kept} (gathering : f.stage ≡ stage.Gathering) (v : Valid f k) where
  g : Gathering f
  g = v.gathering gathering

  h_rows : length (take f.rows k.plants) ≡ f.rows
  h_rows = length-take-le f.rows k.plants (omega (arith, g.rows, g.plants, v.lent.plants))

  -- ---- a P line

  module _ (figures : List ℕ) (h : f.rows < f.plants) where
    abbrev after : Kept
    after = with_plants k (set k.plants f.rows (plant_of figures))

    lent : Lent after
    lent = lent_as v.lent (length-set k.plants f.rows (plant_of figures)) refl refl refl

    rows-after : take (f.rows + 1) after.plants ≡ take f.rows k.plants ++ (plant_of figures ∷ [])
    rows-after = rw add-one (take-suc-set k.plants f.rows (plant_of figures) (omega (arith, h, g.plants, v.lent.plants)))

    takes_row : taken (f.count + 1) (progress_of f k) figures ≡ gathers (sizes_of f) (take f.rows k.plants ++ (plant_of figures ∷ [])) (take f.figures k.profile)
    unfolding taken
    takes_row = rw (gathers_is f k gathering, h_rows, lt-ltb f.rows f.plants h)

    pub row_moved : (q : MonthFile) → q ≡ at_stage f stage.Gathering
        → Moved f (taken (f.count + 1) (progress_of f k) figures) (gathered q q.periods q.plants q.tariff (f.rows + 1) q.figures) after
    unfolding at_stage
    row_moved q e =
        moved_as f after lent
        (gathers_moved f after lent f.periods f.plants f.tariff (f.rows + 1) f.figures
        (record { plants = g.plants; periods = g.periods; rows = omega (arith, h); figures = g.figures; counted = omega (arith, g.counted) }))
        (ap (λ (m : MonthFile). gathered m m.periods m.plants m.tariff (f.rows + 1) m.figures) (sym e))
        (ap (λ (r : List Plant). gathers (sizes_of f) r (take f.figures k.profile)) rows-after ∙ sym takes_row)

  -- ---- an H line

  module _ (figures : List ℕ) (h : f.plants ≤ f.rows) where
    abbrev kwh : ℕ
    kwh = get_or figures 1 0

    abbrev longer : Kept
    longer = with_profile k (set k.profile f.figures kwh)

    lent_longer : Lent longer
    lent_longer = lent_as v.lent refl (length-set k.profile f.figures kwh) refl refl

    all_rows : f.rows ≡ f.plants
    all_rows = omega (arith, g.rows, h)

    abbrev more : List ℕ
    more = take f.figures k.profile ++ (kwh ∷ [])

    profile-after : take (f.figures + 1) longer.profile ≡ more
    profile-after = rw add-one (take-suc-set k.profile f.figures kwh (omega (arith, g.figures, g.periods, v.lent.profile)))

    length_more : length more ≡ f.figures + 1
    length_more =
        length-append (take f.figures k.profile) (kwh ∷ [])
        ∙ ap (λ (n : ℕ). n + 1) (length-take-le f.figures k.profile (omega (arith, g.figures, g.periods, v.lent.profile)))

    abbrev due : Progress
    due = cond (eqb (f.figures + 1) f.periods) (opened (f.count + 1) (sizes_of f) (take f.rows k.plants) more) (gathers (sizes_of f) (take f.rows k.plants) more)

    takes_figure : taken (f.count + 1) (progress_of f k) figures ≡ due
    unfolding taken
    takes_figure =
        rw (gathers_is f k gathering, h_rows, le-ltb f.rows f.plants h, length_more)

    pub figure_moved : f.figures + 1 < f.periods → (q : MonthFile) → q ≡ at_stage f stage.Gathering
        → Moved f (taken (f.count + 1) (progress_of f k) figures) (gathered q q.periods q.plants q.tariff q.rows (f.figures + 1)) longer
    unfolding at_stage
    figure_moved m q e =
        moved_as f longer lent_longer
        (gathers_moved f longer lent_longer f.periods f.plants f.tariff f.rows (f.figures + 1)
        (record { plants = g.plants; periods = g.periods; rows = g.rows; figures = m; counted = omega (arith, g.counted) }))
        (ap (λ (n : MonthFile). gathered n n.periods n.plants n.tariff n.rows (f.figures + 1)) (sym e))
        (ap (gathers (sizes_of f) (take f.rows k.plants)) profile-after ∙ sym (takes_figure ∙ rw (ne_eqb (f.figures + 1) f.periods (λ z. omega arith))))

    -- the last
    module _ (m : f.periods ≤ f.figures + 1) where
      last : f.figures + 1 ≡ f.periods
      last = omega (arith, g.figures, m)

      opens : opened_of f longer ≡ due
      unfolding opened_of
      opens =
          ap₂ (λ (n : ℕ) (p : List ℕ). opened (f.count + 1) (sizes_of f) (take n k.plants) p) (sym all_rows)
          (ap (λ (n : ℕ). take n longer.profile) (sym last) ∙ profile-after)
          ∙ rw (eq-eqb (f.figures + 1) f.periods last)

      pub last_moved : {r : MonthFile} {q : Kept} → Moved f (opened_of f longer) r q → Moved f (taken (f.count + 1) (progress_of f k) figures) r q
      last_moved {r} {q} w = moved_as f q w.valid.lent w refl (opens ∙ sym takes_figure)
