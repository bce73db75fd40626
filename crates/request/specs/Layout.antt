-- The layout of a request with plant data: the data, which are version, plant, readings, consent and way, and then the own words of
-- the call that it is for. Each word is a 32-bit unsigned number in four bytes, the lowest first. Assumes nothing.
use Rattle.std.specs.Prelude.{ℕ, ◌+◌, Bool, ◌&&◌, List, leb, get_or, Result}
use Rattle.std.specs.Result.{result_and}
use Rattle.words.specs.Bytes.{word, words_from}
use Rattle.rules.specs.Limits.{most_lines}
use Rattle.request.specs.Frames.{plant_words, way_word, data_words, works_words, frame_of}
use Rattle.request.specs.ConsentLayout.{consent_of}
use Rattle.rules.specs.Kinds.{last_process, process_of, last_precipitant, precipitant_of, last_tank_flow, tank_flow_of}
use Rattle.rules.specs.Kinds.{last_removal, removal_of, last_primary_settling, primary_settling_of, last_way, way_of}
use Rattle.request.specs.Kinds.{last_reading, reading_of, where_known}
use Rattle.rules.specs.declared.Consent.{Consent}
use Rattle.rules.specs.declared.Plant.{Plant}
use Rattle.rules.specs.declared.Readings.{Readings}
use Rattle.rules.specs.declared.Candidate.{Candidate}
use Rattle.rules.specs.declared.Split.{Split}
use Rattle.request.specs.declared.Fault.{Fault}
use Rattle.request.specs.declared.Data.{Data}

-- the plant, words 1 to 18 and 29 of the data, with its consent and the way by its code
abbrev pub plant_of : List ℕ → Consent → ℕ → Plant
plant_of words consent way =
    record {
      load = get_or words 1 0;
      flow = get_or words 2 0;
      wet_weather_flow = get_or words 3 0;
      design_temperature = get_or words 4 0;
      aeration_temperature = get_or words 5 0;
      sludge_volume_index = get_or words 6 0;
      nitrate_target = get_or words 7 0;
      phosphorus_target = get_or words 8 0;
      carbon_peak = get_or words 9 0;
      nitrogen_peak = get_or words 10 0;
      oxygen_saturation = get_or words 11 0;
      site_surface = get_or words 12 0;
      site_depth = get_or words 13 0;
      process = process_of (get_or words 14 0);
      precipitant = precipitant_of (get_or words 15 0);
      tank = tank_flow_of (get_or words 16 0);
      removal = removal_of (get_or words 17 0);
      primary_settling = primary_settling_of (get_or words 18 0);
      dose = get_or words 29 0;
      consent = consent;
      way = way_of way;
    }

-- the readings, words 19 to 28 of the data
abbrev pub readings_of : List ℕ → Readings
readings_of words =
    record {
      bod = reading_of (get_or words 19 0) (get_or words 20 0);
      cod = reading_of (get_or words 21 0) (get_or words 22 0);
      solids = reading_of (get_or words 23 0) (get_or words 24 0);
      nitrogen = reading_of (get_or words 25 0) (get_or words 26 0);
      phosphorus = reading_of (get_or words 27 0) (get_or words 28 0);
    }

-- each kind of the plant is one of the layout's, the way too; each kind of a reading; and all of these
abbrev pub plant_kinds_known : List ℕ → ℕ → Bool
plant_kinds_known words way =
    leb (get_or words 14 0) last_process
    && leb (get_or words 15 0) last_precipitant
    && leb (get_or words 16 0) last_tank_flow
    && leb (get_or words 17 0) last_removal
    && leb (get_or words 18 0) last_primary_settling
    && leb way last_way

abbrev pub reading_kinds_known : List ℕ → Bool
reading_kinds_known words =
    leb (get_or words 19 0) last_reading
    && leb (get_or words 21 0) last_reading
    && leb (get_or words 23 0) last_reading
    && leb (get_or words 25 0) last_reading
    && leb (get_or words 27 0) last_reading

abbrev pub kinds_known : List ℕ → ℕ → Bool
kinds_known words way = plant_kinds_known words way && reading_kinds_known words

-- the data's words decoded, with the consent and the code of the way: 103, else what they hold
unfoldable pub decode_words : List ℕ → Consent → ℕ → Result Data Fault
decode_words words consent way =
    where_known (kinds_known words way) (record { plant = plant_of words consent way; readings = readings_of words })

-- the data of a request for a call with so many own words
unfoldable pub decode : List ℕ → ℕ → Result Data Fault
decode bytes own =
    result_and (frame_of bytes (data_words + own))
    (decode_words (words_from bytes 0 plant_words) (consent_of bytes plant_words) (word bytes way_word))

-- the candidate that a call is asked of: the first three of its own words, which come after the data
abbrev pub asked_candidate : List ℕ → Candidate
asked_candidate bytes =
    record {
      fraction = word bytes data_words;
      return_ratio = word bytes (data_words + 1);
      thickening = word bytes (data_words + 2);
    }

-- how a works is split: the first nine of the call's own words, the number of lines and eight shares
abbrev pub asked_split : List ℕ → Split
asked_split bytes = record { count = word bytes data_words; shares = words_from bytes (data_words + 1) most_lines }

-- the number of the line that is asked for: the word after those
abbrev pub asked_line : List ℕ → ℕ
asked_line bytes = word bytes (data_words + works_words)
