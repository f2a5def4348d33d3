-- What is printed of a refused text.
use Rattle.std.specs.Prelude.{ℕ, List, ◌++◌, codes, decimal}
use Rattle.texts.specs.declared.faults.TextFault.{TextFault}
use Rattle.texts.specs.declared.faults.TextFault.TheVariants.{Byte, Large, Nothing, Memory}

abbrev pub line : TextFault → List ℕ
line (Byte place) = codes "refused text byte " ++ (decimal place ++ codes ": neither a digit nor white space")
line (Large place) = codes "refused text byte " ++ (decimal place ++ codes ": a number above 65535")
line Nothing = codes "refused text: no number"
line Memory = codes "refused text: no memory"
