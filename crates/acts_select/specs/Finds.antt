-- What SELECT enters, by the number that it found. The bytes on it stand from a place on, with zeros after them up to 22 bytes.
use Rattle.std.specs.Prelude.{ℕ, List, ◌++◌, replicate, Some, None}
use Rattle.card.specs.Layout.{file}
use Rattle.card.specs.Select.{directory_response, file_response, first_pointer}
use Rattle.acts_select.specs.declared.Found.{Found}

-- directory d
unfoldable pub found_directory : List ℕ → ℕ → Found
found_directory h d =
    record {
      directory = d;
      current = None;
      pointer = None;
      told = replicate 4 0 ++ directory_response h d;
      from = 4;
      count = 22;
    }

-- file f, which lies in directory d
unfoldable pub found_file : List ℕ → ℕ → ℕ → Found
found_file h d f =
    record {
      directory = d;
      current = Some f;
      pointer = first_pointer (file h f);
      told = file_response (file h f) ++ replicate 11 0;
      from = 0;
      count = 15;
    }
