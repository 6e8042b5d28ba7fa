pub mod CodeAndData
