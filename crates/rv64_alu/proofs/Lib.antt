mod WorkedRows
