-- The worked examples of the writer hold, by computation.
use mathlib.Core.Path.{◌≡◌, refl}
use mathlib.Core.List.{[], ◌∷◌, map}
use Rattle.texts.specs.Examples.{effects, writer_table, buffer_table}

pub answers_hold :
    map (λ e. (effects e.given e.room).number ∷ (effects e.given e.room).size ∷ []) writer_table
    ≡ map (λ e. e.number ∷ e.size ∷ []) writer_table
unfolding effects writer_table
answers_hold = refl

pub bytes_hold : map (λ e. (effects e.given e.room).buffer) buffer_table ≡ map (λ e. e.bytes_due) buffer_table
unfolding effects buffer_table
bytes_hold = refl
