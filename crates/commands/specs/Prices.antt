-- The lines that are printed of the prices of rows.
use Rattle.std.specs.Prelude.{ℕ, List, [], ◌∷◌, ◌++◌, codes, decimal, map}
use Rattle.std.specs.List.{join_with_byte}
use Rattle.frac128.specs.Printed.{printed}
use Rattle.model_lines.specs.Lines.{bound_text}
use Rattle.commands.specs.declared.price_lines.PriceLine.{PriceLine}
use Rattle.commands.specs.declared.price_lines.PriceLines.{PriceLines}

-- a row, its price, and the changes of its right side between which the price holds
abbrev pub price_line : PriceLine → List ℕ
price_line p =
    codes "row " ++ (decimal p.row ++ (codes " price " ++ (printed p.price ++ (codes " from " ++ (bound_text p.low ++ (codes " to " ++ bound_text p.high))))))

-- all lines, without their ends
abbrev pub price_lines : PriceLines → List (List ℕ)
price_lines p = (codes "optimal " ++ printed p.value) ∷ (map price_line p.rows.items ++ codes "end" ∷ [])

-- with line ends between them
abbrev pub prices_text : PriceLines → List ℕ
prices_text p = join_with_byte 10 (price_lines p)
