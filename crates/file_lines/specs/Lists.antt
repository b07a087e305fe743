-- A file's lent lists, as the code holds them: what they hold, and that they are the same lists. Assumes nothing.
use Rattle.std.specs.Prelude.{◌≡◌, List}
use Rattle.plants.specs.declared.Plant.{Plant}
use Rattle.records.specs.declared.tables.PlantRows as read
use Rattle.records.specs.declared.tables.PlantTable as written
use Rattle.records.specs.Tables.{SameTable}
use Rattle.file_lines.specs.declared.lent.FileView.{FileView}
use Rattle.file_lines.specs.declared.lent.LentFile.{LentFile}
use Rattle.file_lines.specs.State.{Kept, kept}

-- what the lists hold, read
abbrev pub viewed_lists : {T : Type 0} → (T → List Plant) → FileView T → Kept
viewed_lists rows v = kept (rows v.plants.now) v.profile.now v.allotted.now v.accounts.now

-- ... and written
abbrev pub lent_lists : {T : Type 0} {G : written.Ghosts T} {H : read.Ghosts T} → (T → List Plant) → LentFile T G H → Kept
lent_lists rows f = kept (rows f.plants.now) f.profile.now f.allotted.now f.accounts.now

-- the lists of both are the same lists, whatever they hold
pub record SameLists {T : Type 0} {G : written.Ghosts T} {H : read.Ghosts T} (a b : LentFile T G H) : Type 0 where
  pub plants : a.plants.ghost_name ≡ b.plants.ghost_name
  pub table : SameTable H.rows G.lender a.plants.now b.plants.now
  pub profile : a.profile.ghost_name ≡ b.profile.ghost_name
  pub allotted : a.allotted.ghost_name ≡ b.allotted.ghost_name
  pub accounts : a.accounts.ghost_name ≡ b.accounts.ghost_name
