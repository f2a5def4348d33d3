-- What each fault names: its number, its layer, the block and the record; and how that is printed.
use Rattle.std.specs.Prelude.{ℕ, List, ◌++◌, Some, None, codes, decimal, Option}
use Rattle.blocks.specs.declared.faults.BlockFault.{BlockFault}
use Rattle.blocks.specs.declared.faults.BlockFault.TheVariants.{Check, Place, Count, Unused}
use Rattle.blocks.specs.declared.faults.ListFault.{ListFault}
use Rattle.blocks.specs.declared.faults.ListFault.TheVariants.{Length, Size, Pair, Order, Points, Block}
use Rattle.blocks.specs.declared.faults.ProgramFault.{ProgramFault}
use Rattle.blocks.specs.declared.faults.ProgramFault.TheVariants.{Long}
use Rattle.blocks.specs.declared.faults.ProgramFault.TheVariants.{List as Listed}
use Rattle.blocks.specs.declared.faults.Layer.{Layer}
use Rattle.blocks.specs.declared.faults.Refusal.{Refusal}

-- a fault of the given number and layer
abbrev pub names : ℕ → Layer → Option ℕ → Option ℕ → Refusal
names number layer block place = record { number = number; layer = layer; block = block; «record» = place }

abbrev pub block_refusal : BlockFault → Refusal
block_refusal (Check p) = names 12 Layer.Block (Some p) None
block_refusal (Place p) = names 13 Layer.Block (Some p) None
block_refusal (Count p) = names 15 Layer.Block (Some p) None
block_refusal (Unused p) = names 16 Layer.Block (Some p) None

abbrev pub list_refusal : ListFault → Refusal
list_refusal Length = names 11 Layer.List None None
list_refusal (Size p) = names 14 Layer.List (Some p) None
list_refusal (Pair p i) = names 17 Layer.List (Some p) (Some i)
list_refusal (Order p i) = names 18 Layer.List (Some p) (Some i)
list_refusal (Points p i) = names 19 Layer.List (Some p) (Some i)
list_refusal (Block fault) = block_refusal fault

abbrev pub program_refusal : ProgramFault → Refusal
program_refusal Long = names 10 Layer.Program None None
program_refusal (Listed fault) = list_refusal fault

abbrev pub layer_text : Layer → List ℕ
layer_text Layer.Block = codes "block"
layer_text Layer.List = codes "list"
layer_text Layer.Program = codes "program"

-- an absent place is a dash
abbrev pub place_text : Option ℕ → List ℕ
place_text (Some place) = decimal place
place_text None = codes "-"

-- the line that is printed, without its end
abbrev pub line : Refusal → List ℕ
line r = codes "refused " ++ (decimal r.number ++ (codes " layer " ++ (layer_text r.layer ++ (codes " block " ++ (place_text r.block ++ (codes " record " ++ place_text r.«record»))))))
